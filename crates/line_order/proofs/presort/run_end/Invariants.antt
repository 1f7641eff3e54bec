use Rattle.std.proofs.Common.{◌<◌, ◌≤◌, ◌-◌, length}
use Rattle.line_order.proofs.presort.run_end.Given as goal

abbrev pub invariant-loop-end : goal.invariant-loop-end
invariant-loop-end g l = (l.start < l.end) × (l.end ≤ length l.lines)

abbrev pub decreases-loop-end : goal.decreases-loop-end
decreases-loop-end g l = length l.lines - l.end
