use Rattle.std.proofs.Common.{◌≡◌, None, Some, subst, sym}
use Rattle.std.specs.Prelude.{IfNone, IfSome}
use Rattle.http_text.specs.Readers.{ReaderStandsFor}
use Rattle.http_text.specs.Taken.{reply_messages, taken_after}
use Rattle.http_heads.specs.declared.message.Kind.{Kind}
use Rattle.http_heads.specs.declared.message.Kind.TheVariants.{Replies}
use Rattle.http_heads.specs.declared.message.Message.TheVariants as forms
use Rattle.http_text.proofs.TakenLemmas.{at_kind, IsOfKind, waiting_of_kind, taken_messages}
use Rattle.http_text.proofs.replies.ReplyReader.take.Goals as goal
use Rattle.http_text.proofs.replies.ReplyReader.take.Goals.{in-Some-Reply, in-None}

pub unreachable-requires : goal.unreachable-requires
unreachable-requires c =
    subst (IsOfKind Replies) c.in-Some-Request.field-0-is
    (waiting_of_kind Replies c.self.inside.reader c.in-Some-Request.field-0 _ c.self.invariant.0 c.self.invariant.1 c.in-Some-Request.ensures.first)

pub returns-clause-rest : goal.returns-clause-rest
returns-clause-rest c = λ bytes taken stands.
    let none : IfNone c.match-take.result (c.take.result ≡ None) = elim c.match-take.branch [ in-Some-Reply w ↦ rw w.result-is tt | in-None w ↦ rw w.result-is w.in-None.is ] in
    let some : IfSome c.match-take.result (λ r. c.take.result ≡ Some (forms.Reply r)) =
    elim c.match-take.branch [ in-Some-Reply w ↦ rw w.result-is (cc) | in-None w ↦ rw w.result-is tt ] in
    let rest = c.take.ensures.rest bytes (reply_messages taken) (at_kind c.self.inside.reader.kind Replies c.self.inside.reader c.args.self.now bytes (reply_messages taken) c.self.invariant.0 c.self.view_is stands) in
    subst (λ (k : Kind). ReaderStandsFor k bytes (reply_messages (taken_after taken c.match-take.result)) c.take.new.self) c.self.invariant.0
    (rw (sym (taken_messages forms.Reply taken c.match-take.result c.take.result none some)) rest)
