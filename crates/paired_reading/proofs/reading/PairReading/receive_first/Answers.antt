use Rattle.std.proofs.Common.{ℕ, List, [], true, sym, ◌∙◌, subst}
use Rattle.zone_files.specs.Generation.{IsMarked}
use Rattle.zone_state.proofs.Readings.{true_and_false}
use Rattle.paired_reading.proofs.Going.{ok_from, received_on}
use Rattle.paired_reading.proofs.reading.PairReading.receive_first.Goals as goal

pub returns-then-is_marked : goal.returns-then-is_marked
returns-then-is_marked c = record { ok = ok_from c.begin.result _ _ (λ begun first most read. begun first most) c.begin.ensures.ok }

pub returns-else-is_marked : goal.returns-else-is_marked
returns-else-is_marked c = record {
  ok = ok_from c.go_on.result _ _
      (λ go first most read. received_on first c.args.self.now c.go_on.new.self [] c.args.payload.now most (λ whole. read) (λ broken. absurd (true_and_false c.args.self.now.reading.broken broken c.requires.fresh.2))
      (λ same marked. true_and_false c.is_marked.result (c.is_marked.ensures.1 (subst IsMarked (sym c.as_slice.ensures) marked)) c.if-is_marked.false)
      go.most go.generation (go.begins ∙ c.requires.begun) (go.checkpoint ∙ c.requires.fresh.0) go.reads_on)
      c.go_on.ensures.ok;
}
