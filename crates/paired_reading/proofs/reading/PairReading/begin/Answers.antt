use Rattle.std.proofs.Common.{ℕ, ◌+◌, List, ◌≤◌, ◌∙◌, sym, ap, subst, length, arith}
use Rattle.chain_core.specs.Breaks.{BreaksAt}
use Rattle.checkpoint_text.specs.Text.{IsCheckpoint}
use Rattle.checkpoint_reading.specs.Reading.{brief_read}
use Rattle.paired_reading.specs.Payloads.{AreNew}
use Rattle.paired_reading.proofs.Going.{ok_both, received_checkpoint}
use Rattle.paired_reading.proofs.reading.PairReading.begin.Goals as goal

pub returns-in-Ok : goal.returns-in-Ok
returns-in-Ok c =
    let e = c.take_over.ensures in
    let read = c.in-Ok.checkpoint in
    let is = subst (λ (t : List ℕ). IsCheckpoint t read.generation (brief_read read)) c.as_slice-2.ensures c.in-Ok.ensures.checkpoint in
    record {
      ok = ok_both c.take_over.result _ _ _
          (λ whole breaks first most. received_checkpoint first c.take_over.new.self c.args.payload.now read is (omega (arith, c.if-length-gt-CHECKPOINT_FILE_LIMIT.false, ap length c.as_slice.ensures)) c.in-Ok.ensures.made
          (e.most ∙ most) (e.begins ∙ c.requires.begun) (e.checkpoint ∙ c.requires.may) (e.full ∙ c.requires.room) e.bytes e.contents e.generation
          (λ is. ((whole is).0, subst (λ (n : ℕ). AreNew n read.ids.items) most (whole is).1)) (λ is. subst (λ (n : ℕ). BreaksAt (AreNew n) read.ids.items (length c.take_over.new.self.reading.kept.ids.items + 1)) most (breaks is)))
          e.whole e.breaks;
    }
