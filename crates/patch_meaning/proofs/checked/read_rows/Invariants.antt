use Rattle.std.proofs.Common.{◌-◌, length}
use Rattle.patch_meaning.specs.Checked.{HasTakenRows, AreRead}
use Rattle.patch_meaning.proofs.checked.read_rows.Given as goal

-- the rows so far were taken
abbrev pub invariant-loop-read : goal.invariant-loop-read
invariant-loop-read l = HasTakenRows l.text l.at (AreRead l.read)

abbrev pub decreases-loop-read : goal.decreases-loop-read
decreases-loop-read l = length l.text - l.at
