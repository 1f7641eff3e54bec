use Rattle.std.proofs.Common.{List, length}
use Rattle.patch_meaning.specs.Checked.{CheckedPatch}
use Rattle.stream_squash.specs.Pieces.{ArePieces, GoesBack}
use Rattle.stream_squash.proofs.pieces.net_of.Given as goal

abbrev pub invariant-loop-length : goal.invariant-loop-length
invariant-loop-length l = (ps : List CheckedPatch) → ArePieces ps l.text l.lengths → GoesBack ps l.rest l.left l.base.contents l.gathering l.last l.first

abbrev pub decreases-loop-length : goal.decreases-loop-length
decreases-loop-length l = length l.left
