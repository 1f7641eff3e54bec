use Rattle.std.proofs.Common.{◌≡◌, List, None, length}
use Rattle.patch_meaning.specs.Checked.{CheckedPatch}
use Rattle.stream_squash.specs.Pieces.{ArePieces, GoesForth}
use Rattle.stream_squash.proofs.pieces.replayed.Given as goal

abbrev pub invariant-loop-length : goal.invariant-loop-length
invariant-loop-length l = ((ps : List CheckedPatch) → ArePieces ps l.text l.lengths → GoesForth ps l.rest l.left l.base.contents) × (l.base.staged ≡ None)

abbrev pub decreases-loop-length : goal.decreases-loop-length
decreases-loop-length l = length l.left
