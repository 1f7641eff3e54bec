use Rattle.std.proofs.Common.{◌-◌, length}
use Rattle.patch_meaning.specs.Checked.{HasTakenRows, AreDrafted}
use Rattle.patch_meaning.proofs.link.draft_rows.Given as goal

-- the rows so far were taken
abbrev pub invariant-loop-end : goal.invariant-loop-end
invariant-loop-end l = HasTakenRows l.text l.at (AreDrafted l.draft)

abbrev pub decreases-loop-end : goal.decreases-loop-end
decreases-loop-end l = length l.text - l.at
