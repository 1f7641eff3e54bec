use Rattle.std.proofs.Common.{◌≡◌, ◌+◌, ◌-◌, ◌≤◌}
use Rattle.slot_files.specs.Files.{Files}
use Rattle.journal_upgrade.specs.Numbers.{IsSet}
use Rattle.directory_upgrade.specs.Sets.{AreKeptButSpare, IsTaken}
use Rattle.directory_upgrade.specs.Directories.{up_to}
use Rattle.directory_upgrade.proofs.directory.take_logs.Given as goal

abbrev pub invariant-loop-number : goal.invariant-loop-number
invariant-loop-number g l = record {
  numbers : l.set.numbers.items ≡ up_to (l.number - 1);
  set : IsSet l.set.files.items l.set.spares.items l.set.numbers.items;
  marker : l.set.marker ≡ l.fn.set.marker;
  marker_number : l.set.marker_number ≡ l.fn.set.marker_number;
  taken : g.H.Shelf.tells → (old : Files) → IsTaken g.H.D.Disk l.dir old l.fn.set.numbers.items l.fn.set.files.items l.fn.set.spares.items l.fn.set.marker l.fn.set.marker_number
      → AreKeptButSpare l.dir l.fn.set.marker_number (up_to 0) old (g.H.Shelf.files l.fn.shelf)
      → IsTaken g.H.D.Disk l.dir old l.set.numbers.items l.set.files.items l.set.spares.items l.set.marker l.set.marker_number;
  kept : g.H.Shelf.tells → (old : Files) → AreKeptButSpare l.dir l.fn.set.marker_number (up_to 0) old (g.H.Shelf.files l.fn.shelf)
      → AreKeptButSpare l.dir l.fn.set.marker_number (up_to (l.number - 1)) old (g.H.Shelf.files l.shelf);
  faults : g.H.Shelf.faults l.fn.shelf ≤ g.H.Shelf.faults l.shelf;
  low : 1 ≤ l.number;
  high : l.number ≤ l.fn.slots + 1;
}
