use Rattle.std.proofs.Common.{◌≤◌}
use Rattle.slot_files.specs.Files.{SameBut}
use Rattle.append_bench.specs.Filled.{AreFull}
use Rattle.append_bench.proofs.filling.fill_new_file.Given as goal

abbrev pub invariant-loop-number : goal.invariant-loop-number
invariant-loop-number g l = record {
  full : g.H.Shelf.tells → AreFull l.dir l.number (g.H.Shelf.files l.fn.shelf);
  same : g.H.Shelf.tells → SameBut l.dir 0 0 (g.H.Shelf.files l.fn.shelf) (g.H.Shelf.files l.shelf);
  faults : g.H.Shelf.faults l.fn.shelf ≤ g.H.Shelf.faults l.shelf;
  high : l.number ≤ 10000;
}
