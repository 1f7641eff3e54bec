use Rattle.std.proofs.Common.{◌≡◌, ◌⊎◌, ◌∙◌, [], Some, ap, subst}
use Rattle.http_text.specs.Readers.{ReaderStandsFor, waiting, fault_of, was_told}
use Rattle.http_text.specs.Taken.{AsksBehind, request_messages}
use Rattle.http_heads.specs.declared.framing.FrameFault.TheVariants.{OutOfMemory}
use Rattle.http_heads.specs.declared.message.Kind.{Kind}
use Rattle.http_heads.specs.declared.message.Kind.TheVariants.{Requests}
use Rattle.http_text.specs.declared.reader.MessageReader.{MessageReader}
use Rattle.http_text.proofs.TakenLemmas.{at_kind}
use Rattle.http_text.proofs.requests.RequestReader.take_expect.Goals as goal

pub returns-clause-stands : goal.returns-clause-stands
returns-clause-stands c = λ bytes taken stands.
    subst (λ (k : Kind). ReaderStandsFor k bytes (request_messages taken) c.take_expect.new.self) c.self.invariant.0
    (c.take_expect.ensures.stands bytes (request_messages taken) (at_kind c.self.inside.reader.kind Requests c.self.inside.reader c.args.self.now bytes (request_messages taken) c.self.invariant.0 c.self.view_is stands))

pub returns-clause-asks : goal.returns-clause-asks
returns-clause-asks c = λ yes bytes taken stands.
    subst (λ (k : Kind). AsksBehind k bytes (request_messages taken)) c.self.invariant.0
    (c.take_expect.ensures.asks yes bytes (request_messages taken) (at_kind c.self.inside.reader.kind Requests c.self.inside.reader c.args.self.now bytes (request_messages taken) c.self.invariant.0 c.self.view_is stands))

pub returns-clause-quiet : goal.returns-clause-quiet
returns-clause-quiet c = λ no fresh bytes taken stands.
    subst (λ (r : MessageReader). ((waiting r ≡ []) × (fault_of r ≡ Some OutOfMemory)) ⊎ ¬ (AsksBehind Requests bytes (request_messages taken))) c.self.view_is
    (subst (λ (k : Kind). ((waiting c.self.inside.reader ≡ []) × (fault_of c.self.inside.reader ≡ Some OutOfMemory)) ⊎ ¬ (AsksBehind k bytes (request_messages taken))) c.self.invariant.0
    (c.take_expect.ensures.quiet no (ap was_told c.self.view_is ∙ fresh) bytes (request_messages taken) (at_kind c.self.inside.reader.kind Requests c.self.inside.reader c.args.self.now bytes (request_messages taken) c.self.invariant.0 c.self.view_is stands)))
