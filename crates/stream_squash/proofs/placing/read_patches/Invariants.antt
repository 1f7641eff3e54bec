use Rattle.std.proofs.Common.{◌-◌, length}
use Rattle.stream_squash.specs.Placing.{HasPlaced}
use Rattle.stream_squash.proofs.placing.read_patches.Given as goal

-- the rows so far were cut
abbrev pub invariant-loop-placing : goal.invariant-loop-placing
invariant-loop-placing l = HasPlaced l.text l.at l.placing

abbrev pub decreases-loop-placing : goal.decreases-loop-placing
decreases-loop-placing l = length l.text - l.at
