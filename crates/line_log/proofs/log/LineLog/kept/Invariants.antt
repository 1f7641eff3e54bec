use Rattle.std.proofs.Common.{◌≡◌, ◌+◌, ◌-◌, ◌<◌, ◌++◌, length}
use Rattle.std.specs.List.{AllByRecursion}
use Rattle.line_log.specs.Sorting.{IsRowBehind, edits_at, keep, lines_at, lines_numbered, merged}
use Rattle.line_log.proofs.log.LineLog.kept.Given as goal

-- what is kept of the rows that are left comes behind the others
abbrev pub invariant-loop-kept : goal.invariant-loop-kept
invariant-loop-kept l = record {
  rows : AllByRecursion (IsRowBehind l.self l.front) (lines_numbered l.rest);
  within : AllByRecursion (λ n. n < length l.self) l.kept.items;
  kept : lines_at l.self l.kept.items ++ keep (edits_at l.self (merged l.self l.front l.next (lines_numbered l.rest))) ≡ keep (edits_at l.self (merged l.self l.front 0 (lines_numbered l.rows)));
}

abbrev pub decreases-loop-kept : goal.decreases-loop-kept
decreases-loop-kept l = (l.front - l.next) + length l.rest
