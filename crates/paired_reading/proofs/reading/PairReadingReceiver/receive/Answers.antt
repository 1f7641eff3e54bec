use Rattle.std.proofs.Common.{◌∙◌}
use Rattle.paired_reading.proofs.Going.{ok_from, received_on}
use Rattle.paired_reading.proofs.reading.PairReadingReceiver.receive.Goals as goal

pub returns : goal.returns
returns c first payloads has =
    ok_from c.go_on.result _ _
    (λ go. received_on first c.args.self.now c.go_on.new.self payloads c.args.payload has.most_is (has.found c.if-self.false) (has.breaks c.if-self.false) (λ none. absurd (has.begun c.if-self-2.false none))
    go.most go.generation (go.begins ∙ c.if-self-2.false) (go.checkpoint ∙ c.if-self.false) go.reads_on)
    c.go_on.ensures.ok
