use Rattle.std.proofs.Common.{◌≡◌, None, Some, subst, sym}
use Rattle.std.specs.Prelude.{IfNone, IfSome}
use Rattle.http_text.specs.Readers.{ReaderStandsFor}
use Rattle.http_text.specs.Taken.{request_messages, taken_after}
use Rattle.http_heads.specs.declared.message.Kind.{Kind}
use Rattle.http_heads.specs.declared.message.Kind.TheVariants.{Requests}
use Rattle.http_heads.specs.declared.message.Message.TheVariants as forms
use Rattle.http_text.proofs.TakenLemmas.{at_kind, IsOfKind, waiting_of_kind, taken_messages}
use Rattle.http_text.proofs.requests.RequestReader.take.Goals as goal
use Rattle.http_text.proofs.requests.RequestReader.take.Goals.{in-Some-Request, in-None}

pub unreachable-requires : goal.unreachable-requires
unreachable-requires c =
    subst (IsOfKind Requests) c.in-Some-Reply.field-0-is
    (waiting_of_kind Requests c.self.inside.reader c.in-Some-Reply.field-0 _ c.self.invariant.0 c.self.invariant.1 c.in-Some-Reply.ensures.first)

pub returns-clause-rest : goal.returns-clause-rest
returns-clause-rest c = λ bytes taken stands.
    let none : IfNone c.match-take.result (c.take.result ≡ None) = elim c.match-take.branch [ in-Some-Request w ↦ rw w.result-is tt | in-None w ↦ rw w.result-is w.in-None.is ] in
    let some : IfSome c.match-take.result (λ r. c.take.result ≡ Some (forms.Request r)) =
    elim c.match-take.branch [ in-Some-Request w ↦ rw w.result-is (cc) | in-None w ↦ rw w.result-is tt ] in
    let rest = c.take.ensures.rest bytes (request_messages taken) (at_kind c.self.inside.reader.kind Requests c.self.inside.reader c.args.self.now bytes (request_messages taken) c.self.invariant.0 c.self.view_is stands) in
    subst (λ (k : Kind). ReaderStandsFor k bytes (request_messages (taken_after taken c.match-take.result)) c.take.new.self) c.self.invariant.0
    (rw (sym (taken_messages forms.Request taken c.match-take.result c.take.result none some)) rest)
