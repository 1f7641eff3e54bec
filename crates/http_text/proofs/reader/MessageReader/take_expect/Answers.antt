use Rattle.std.proofs.Common.{◌≡◌, ◌∙◌, true, false, sym}
use Rattle.http_text.proofs.ExpectLemmas.{front_asks, front_asks_nothing}
use Rattle.http_text.proofs.reader.MessageReader.take_expect.Goals as goal
use Rattle.http_text.proofs.reader.MessageReader.take_expect.Goals.{then-self-via-then-self, then-self-via-else-self+then-not-expects}

pub returns-then-self-clause-quiet : goal.returns-then-self-clause-quiet
returns-then-self-clause-quiet c = λ no fresh bytes taken stands.
    elim c.then-self.branch [
      | then-self-via-then-self w ↦ (let both : true ≡ false = sym w.if-self.true ∙ fresh in cc)
      | then-self-via-else-self+then-not-expects w ↦
          front_asks_nothing c.args.self.now.kind bytes stands.0 _ taken _ c.args.self.now.stage stands.1 stands.2 (sym w.expects.ensures ∙ w.if-not-expects.true)
    ]

pub returns-clause-asks : goal.returns-clause-asks
returns-clause-asks c = λ yes bytes taken stands.
    front_asks c.args.self.now.kind bytes stands.0 _ taken _ c.args.self.now.stage stands.1 stands.2 (sym c.expects.ensures ∙ c.if-not-expects.false)
