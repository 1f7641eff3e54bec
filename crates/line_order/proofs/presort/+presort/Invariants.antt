use Rattle.std.proofs.Common.{◌≡◌, ◌-◌, ◌≤◌, length, true}
use Rattle.std.specs.List.Sorted.{IsSortedWithin}
use Rattle.std.specs.Ordering.{is_lt}
use Rattle.line_order.specs.Moves.{AreMoved, lines_of}
use Rattle.line_order.proofs.presort.+presort.Given as goal

-- how often a run may still be sorted by keys
abbrev pub decreases-presort : goal.decreases-presort
decreases-presort g l = l.levels

abbrev pub invariant-loop-start : goal.invariant-loop-start
invariant-loop-start g l = record {
  within : l.start ≤ length l.lines;
  moved : AreMoved l.fn.lines l.lines;
  rise : l.rises ≡ true → IsSortedWithin (λ x y. is_lt (g.T.Ord.cmp x y)) (lines_of l.lines) 0 l.start;
}

abbrev pub decreases-loop-start : goal.decreases-loop-start
decreases-loop-start g l = length l.initial.lines - l.start
