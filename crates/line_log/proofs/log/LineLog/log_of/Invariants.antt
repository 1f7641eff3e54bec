use Rattle.std.proofs.Common.{◌≡◌, ◌++◌, drop}
use Rattle.line_log.specs.Sorting.{additions, lines_at}
use Rattle.line_log.proofs.log.LineLog.log_of.Given as goal

-- the lines that are left come behind the others
abbrev pub invariant-loop-number : goal.invariant-loop-number
invariant-loop-number l = l.log ++ additions (lines_at l.self (drop l.number-index l.order)) ≡ additions (lines_at l.self l.order)
