use Rattle.std.proofs.Common.{subst, ◌++◌}
use Rattle.http_messages.specs.Messages.{ReadsMessages, between, inside}
use Rattle.http_text.specs.Readers.{waiting}
use Rattle.http_text.specs.Taken.{request_messages}
use Rattle.http_heads.specs.declared.message.Kind.{Kind}
use Rattle.http_heads.specs.declared.message.Kind.TheVariants.{Requests}
use Rattle.http_text.specs.declared.reader.MessageReader.{MessageReader}
use Rattle.http_text.proofs.TakenLemmas.{at_kind, on_ok, on_err}
use Rattle.http_text.proofs.requests.RequestReader.finish.Goals as goal

pub returns-clause-between : goal.returns-clause-between
returns-clause-between c = on_ok c.finish.result _ _ (λ ends bytes taken stands.
    subst (λ (r : MessageReader). ReadsMessages Requests bytes (request_messages taken ++ waiting r) between) c.self.view_is
    (subst (λ (k : Kind). ReadsMessages k bytes (request_messages taken ++ waiting c.self.inside.reader) between) c.self.invariant.0
    (ends bytes (request_messages taken) (at_kind c.self.inside.reader.kind Requests c.self.inside.reader c.args.self.now bytes (request_messages taken) c.self.invariant.0 c.self.view_is stands)))) c.finish.ensures.between

pub returns-clause-inside : goal.returns-clause-inside
returns-clause-inside c = on_err c.finish.result _ _ (λ ends bytes taken stands.
    subst (λ (r : MessageReader). ReadsMessages Requests bytes (request_messages taken ++ waiting r) inside) c.self.view_is
    (subst (λ (k : Kind). ReadsMessages k bytes (request_messages taken ++ waiting c.self.inside.reader) inside) c.self.invariant.0
    (ends bytes (request_messages taken) (at_kind c.self.inside.reader.kind Requests c.self.inside.reader c.args.self.now bytes (request_messages taken) c.self.invariant.0 c.self.view_is stands)))) c.finish.ensures.inside
