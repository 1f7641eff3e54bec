use Rattle.std.proofs.Common.{◌≡◌, take}
use Rattle.patch_meaning.proofs.checked.copy_changes.Given as goal

-- the changes so far were copied
abbrev pub invariant-loop-change : goal.invariant-loop-change
invariant-loop-change l = l.copy.items ≡ take l.change-index l.change-items
