use Rattle.std.proofs.Common.{◌+◌, ◌≤◌}
use Rattle.slot_files.specs.Files.{AreMade, SameBut}
use Rattle.slot_files.proofs.logs.format_logs.Given as goal

abbrev pub invariant-loop-number : goal.invariant-loop-number
invariant-loop-number g l = record {
  made : g.H.Shelf.tells → AreMade l.dir l.number (g.H.Shelf.files l.fn.shelf) (g.H.Shelf.files l.shelf);
  others : g.H.Shelf.tells → SameBut l.dir 1 l.number (g.H.Shelf.files l.fn.shelf) (g.H.Shelf.files l.shelf);
  faults : g.H.Shelf.faults l.fn.shelf ≤ g.H.Shelf.faults l.shelf;
  low : 1 ≤ l.number;
  high : l.number ≤ l.fn.slots + 1;
}
