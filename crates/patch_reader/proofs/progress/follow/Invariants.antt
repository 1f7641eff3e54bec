use Rattle.std.proofs.Common.{length}
use Rattle.patch_reader.specs.Progress.{IsProgressWithin, HasFollowed, steps_left}
use Rattle.patch_reader.proofs.progress.follow.Given as goal

-- the row is followed from here on
abbrev pub invariant-steps : goal.invariant-steps
invariant-steps l = IsProgressWithin (length l.text) l.progress × (HasFollowed l.text l.initial.progress → HasFollowed l.text l.progress)

abbrev pub decreases-steps : goal.decreases-steps
decreases-steps l = steps_left l.progress.place
