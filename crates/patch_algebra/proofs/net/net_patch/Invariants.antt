use Rattle.std.proofs.Common.{length}
use Rattle.patch_algebra.proofs.Ends.{GoesBack}
use Rattle.patch_algebra.proofs.net.net_patch.Given as goal

abbrev pub invariant-loop-patch : goal.invariant-loop-patch
invariant-loop-patch l = GoesBack l.run l.rest l.base.contents l.gathering

abbrev pub decreases-loop-patch : goal.decreases-loop-patch
decreases-loop-patch l = length l.rest
