use Rattle.std.proofs.Common.{◌≡◌, ◌++◌, map}
use Rattle.std.specs.Vec.Iter.{into_iter_items}
use Rattle.patch_log.specs.Opening.{patch_linked}
use Rattle.patch_log.proofs.reading.patches_of.Given as goal

-- the patches so far, and those that are left
abbrev pub invariant-loop-patch : goal.invariant-loop-patch
invariant-loop-patch l = l.patches.items ++ map patch_linked (into_iter_items l.patch-iterator) ≡ map patch_linked l.fn.linked.items
