use Rattle.std.proofs.Common.{◌≡◌, ◌++◌, drop}
use Rattle.line_log.specs.Sorting.{numbered, lines_numbered}
use Rattle.line_log.proofs.log.LineLog.rows.Given as goal

-- the rows of the edits that are left come behind the others
abbrev pub invariant-loop-number : goal.invariant-loop-number
invariant-loop-number l = lines_numbered l.rows.items ++ numbered l.number (drop l.number l.self) ≡ numbered l.front (drop l.front l.self)
