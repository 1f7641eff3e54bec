use Rattle.std.proofs.Common.{◌∙◌, ap, sym, subst, arith}
use Rattle.std.proofs.lemmas.Bool.Decides.{nat_tests}
use Rattle.std.proofs.lemmas.Result.{err_from_is_err_and}
use Rattle.std.proofs.lemmas.List.{take_all}
use Rattle.http_heads.specs.Heads.{HasTooManyFields, IsBadHead, reply}
use Rattle.http_heads.specs.declared.message.Kind.TheVariants.{Replies}
use Rattle.http_heads.specs.declared.message.Message.TheVariants as forms
use Rattle.http_messages.proofs.FrontLemmas.{reply_begins, reply_interim, reply_framing, head_fault, reply_same}
use Rattle.http_messages.proofs.front.reply_front.Goals as goal

pub returns-then-head-eq100 : goal.returns-then-head-eq100
returns-then-head-eq100 c = λ room fits.
    let found = c.in-Whole.ensures in (
      reply found.1.0,
      reply_interim _ _ room fits _ found.1.0 found.0 found.1.1 found.2 (grind (arith, nat_tests)),
      found.1.1.reads,
      found.1.1.len,
      omega (arith, found.0.section.len_fits),
    )

pub returns-in_err-framing-in-Whole : goal.returns-in_err-framing-in-Whole
returns-in_err-framing-in-Whole c = λ room fits.
    let found = c.in-Whole.ensures in
    let begins = reply_begins _ _ room fits _ found.1.0 found.0 found.1.1 found.2 (grind (arith, nat_tests)) in
    let framing = reply_framing _ _ _ found.1.0 _ found.1.1 c.read_framing.ensures in
    let p = err_from_is_err_and c.from_residual.result c.from_residual.ensures.1 in
    rw (p.1, p.2) (head_fault Replies room _ _ (reply found.1.0) _ begins (framing ∙ c.in_err-framing-in-Whole.was))

pub returns-in_ok-reply-in-Whole : goal.returns-in_ok-reply-in-Whole
returns-in_ok-reply-in-Whole c = λ room fits.
    let found = c.in-Whole.ensures in (
      reply found.1.0,
      reply_begins _ _ room fits _ found.1.0 found.0 found.1.1 found.2 (grind (arith, nat_tests)),
      found.1.1.len,
      reply_framing _ _ _ found.1.0 _ found.1.1 c.read_framing.ensures ∙ c.in_ok-framing-in-Whole.was,
      ap forms.Reply (c.in_ok-reply-in-Whole.ensures ∙ reply_same _ _ _ found.1.0 found.1.1),
    )

pub returns-in-TooManyFields : goal.returns-in-TooManyFields
returns-in-TooManyFields c = λ room fits. subst (HasTooManyFields Replies) (sym (take_all room c.args.text.now fits)) c.in-TooManyFields.ensures

pub returns-in-BadHead : goal.returns-in-BadHead
returns-in-BadHead c = λ room fits. subst (IsBadHead Replies) (sym (take_all room c.args.text.now fits)) c.in-BadHead.ensures
