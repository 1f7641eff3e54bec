use Rattle.std.proofs.Common.{◌≡◌, ◌+◌, length, sum}
use Rattle.stream_squash.proofs.pieces.total.Given as goal

abbrev pub invariant-loop-length : goal.invariant-loop-length
invariant-loop-length l = l.total + sum l.left ≡ sum l.lengths

abbrev pub decreases-loop-length : goal.decreases-loop-length
decreases-loop-length l = length l.left
