use Rattle.std.proofs.Common.{◌≤◌, ◌-◌, length, IsTrue}
use Rattle.std.specs.List.{list_all, slice_range}
use Rattle.nquads_text.specs.Reading.{is_at_home as at_home}
use Rattle.nquads_text.proofs.plain_runs.run_end.Given as goal

abbrev pub invariant-loop-run : goal.invariant-loop-run
invariant-loop-run l = record {
  low : l.at ≤ l.run;
  high : l.run ≤ length l.text;
  home : IsTrue (list_all (at_home l.table) (slice_range l.text l.at l.run));
}

abbrev pub decreases-loop-run : goal.decreases-loop-run
decreases-loop-run l = length l.text - l.run

abbrev pub invariant-loop-i : goal.invariant-loop-i
invariant-loop-i l = IsTrue (list_all (at_home l.table) (slice_range l.text l.at l.i))
