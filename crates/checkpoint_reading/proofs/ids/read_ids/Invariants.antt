use Rattle.checkpoint_text.specs.Text.{line_of_id, IsIdValue}
use Rattle.checkpoint_reading.specs.Front.{AreInFront}
use Rattle.checkpoint_reading.proofs.ids.read_ids.Given as goal

abbrev pub invariant-loop-place : goal.invariant-loop-place
invariant-loop-place l = AreInFront line_of_id IsIdValue l._place l.text l.ids.items l.rest
