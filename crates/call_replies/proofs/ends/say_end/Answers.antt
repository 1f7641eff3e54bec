use Rattle.std.proofs.Common.{refl, sym, subst}
use Rattle.call_replies.specs.Ends.{SaysEnd, SaysEndObject, caught_up_members, caught_up_reply, end_members, end_reply}
use Rattle.call_replies.specs.declared.ends.EndTold.{EndTold}
use Rattle.call_replies.proofs.Ended.{object_made, says_made}
use Rattle.call_replies.proofs.ends.say_end.Goals as goal

pub returns-in-CaughtUp-clause-says : goal.returns-in-CaughtUp-clause-says
returns-in-CaughtUp-clause-says c =
    subst (λ (told : EndTold). SaysEnd told c.say_made.result) (sym c.in-CaughtUp.is)
    (says_made (caught_up_reply c.in-CaughtUp.version) c.caught_up.result c.say_made.result refl c.caught_up.ensures.reply c.say_made.ensures.says c.say_made.ensures.want)

pub returns-in-CaughtUp-clause-object : goal.returns-in-CaughtUp-clause-object
returns-in-CaughtUp-clause-object c =
    subst (λ (told : EndTold). SaysEndObject told c.say_made.result) (sym c.in-CaughtUp.is)
    (object_made (caught_up_members c.in-CaughtUp.version) c.caught_up.result c.say_made.result c.caught_up.ensures.reads c.say_made.ensures.says c.say_made.ensures.want)

pub returns-in-Named-clause-says : goal.returns-in-Named-clause-says
returns-in-Named-clause-says c =
    subst (λ (told : EndTold). SaysEnd told c.say_made-in-Named.result) (sym c.in-Named.is)
    (says_made (end_reply c.in-Named.name.now) c.ended.result c.say_made-in-Named.result refl c.ended.ensures.reply c.say_made-in-Named.ensures.says c.say_made-in-Named.ensures.want)

pub returns-in-Named-clause-object : goal.returns-in-Named-clause-object
returns-in-Named-clause-object c =
    subst (λ (told : EndTold). SaysEndObject told c.say_made-in-Named.result) (sym c.in-Named.is)
    (object_made (end_members c.in-Named.name.now) c.ended.result c.say_made-in-Named.result c.ended.ensures.reads c.say_made-in-Named.ensures.says c.say_made-in-Named.ensures.want)
