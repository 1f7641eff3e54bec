use Rattle.std.proofs.Common.{◌+◌, ◌≤◌}
use Rattle.slot_checks.specs.Checks.{HasFileLines, AreKept}
use Rattle.slot_checks.proofs.checking.add_logs.Given as goal

abbrev pub invariant-loop-number : goal.invariant-loop-number
invariant-loop-number g l = record {
  lines : g.H.Shelf.tells → HasFileLines (g.H.Shelf.files l.fn.shelf) l.dir l.fn.registry.records l.number l.report.items;
  kept : g.H.Shelf.tells → AreKept l.dir l.number (g.H.Shelf.files l.fn.shelf) (g.H.Shelf.files l.shelf);
  faults : g.H.Shelf.faults l.fn.shelf ≤ g.H.Shelf.faults l.shelf;
  low : 1 ≤ l.number;
  high : l.number ≤ l.fn.registry.slots + 1;
}
