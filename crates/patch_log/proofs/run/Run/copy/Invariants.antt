use Rattle.std.proofs.Common.{◌≡◌, take}
use Rattle.patch_log.proofs.run.Run.copy.Given as goal

-- the patches so far were copied
abbrev pub invariant-loop-patch : goal.invariant-loop-patch
invariant-loop-patch l = l.patches.items ≡ take l.patch-index l.self
