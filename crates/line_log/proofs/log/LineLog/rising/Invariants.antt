use Rattle.std.proofs.Common.{◌≤◌, ◌-◌, length}
use Rattle.line_log.specs.Sorting.{FrontRises}
use Rattle.line_log.proofs.log.LineLog.rising.Given as goal

abbrev pub invariant-loop-front : goal.invariant-loop-front
invariant-loop-front l = (l.front ≤ length l.self) × FrontRises l.self l.front

abbrev pub decreases-loop-front : goal.decreases-loop-front
decreases-loop-front l = length l.self - l.front
