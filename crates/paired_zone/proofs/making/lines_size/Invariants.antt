use Rattle.std.proofs.Common.{◌≡◌, ◌-◌, ◌^◌, length, min, take}
use Rattle.std.specs.List.{concat}
use Rattle.paired_zone.proofs.making.lines_size.Given as goal

abbrev pub invariant-loop-at : goal.invariant-loop-at
invariant-loop-at l = l.size ≡ min (length (concat (take l.at l.lines))) (2 ^ 64 - 1)
