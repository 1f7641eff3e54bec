use Rattle.std.proofs.Common.{subst, ◌++◌}
use Rattle.http_text.specs.Readers.{ReaderStandsFor, Decides, waiting}
use Rattle.http_text.specs.Taken.{request_messages}
use Rattle.http_heads.specs.declared.message.Kind.{Kind}
use Rattle.http_heads.specs.declared.message.Kind.TheVariants.{Requests}
use Rattle.http_text.proofs.TakenLemmas.{at_kind}
use Rattle.http_text.proofs.requests.RequestReader.feed.Goals as goal

pub returns-clause-stands : goal.returns-clause-stands
returns-clause-stands c = λ bytes taken stands.
    subst (λ (k : Kind). ReaderStandsFor k (bytes ++ c.args.piece.now) (request_messages taken) c.feed.new.self) c.self.invariant.0
    (c.feed.ensures.stands bytes (request_messages taken) (at_kind c.self.inside.reader.kind Requests c.self.inside.reader c.args.self.now bytes (request_messages taken) c.self.invariant.0 c.self.view_is stands))

pub returns-clause-decides : goal.returns-clause-decides
returns-clause-decides c = λ bytes taken stands.
    subst (λ (k : Kind). Decides k (bytes ++ c.args.piece.now) (request_messages taken ++ waiting c.feed.new.self) c.feed.result) c.self.invariant.0
    (c.feed.ensures.decides bytes (request_messages taken) (at_kind c.self.inside.reader.kind Requests c.self.inside.reader c.args.self.now bytes (request_messages taken) c.self.invariant.0 c.self.view_is stands))
