use Rattle.std.proofs.Common.{◌≤◌, ◌-◌}
use Rattle.line_order.proofs.presort.alike.Given as goal

abbrev pub invariant-loop-size : goal.invariant-loop-size
invariant-loop-size l = l.size ≤ l.most

abbrev pub decreases-loop-size : goal.decreases-loop-size
decreases-loop-size l = l.most - l.size

abbrev pub invariant-loop-size-2 : goal.invariant-loop-size-2
invariant-loop-size-2 l = l.size ≤ l.most

abbrev pub decreases-loop-size-2 : goal.decreases-loop-size-2
decreases-loop-size-2 l = l.most - l.size

abbrev pub invariant-loop-size-3 : goal.invariant-loop-size-3
invariant-loop-size-3 l = l.size ≤ l.most

abbrev pub decreases-loop-size-3 : goal.decreases-loop-size-3
decreases-loop-size-3 l = l.most - l.size
