use Rattle.std.proofs.Common.{◌≡◌, ◌+◌, ◌-◌, ◌^◌, length, map, min}
use Rattle.std.specs.Map.Iter.{deref}
use Rattle.patch_algebra.proofs.Patches.{without_ranks}
use Rattle.patch_algebra.proofs.writing.total_length.Given as goal

abbrev pub invariant-loop-row : goal.invariant-loop-row
invariant-loop-row l = l.length ≡ min (l.fn.others + length (without_ranks (map deref l.yielded))) (2 ^ 64 - 1)
