use Rattle.std.proofs.Common.{◌≡◌, ◌≤◌, ◌+◌, length, vec_capacity}
use Rattle.slot_checks.specs.Checks.{AreKept}
use Rattle.delta_server.specs.Files.{AreMarked, HaveBegun}
use Rattle.delta_server.proofs.opening.take_logs.Given as goal

abbrev pub invariant-loop-number : goal.invariant-loop-number
invariant-loop-number g l = record {
  count : length l.disks.items ≡ l.number;
  marked : g.H.Shelf.tells → AreMarked g.H.D.Disk l.dir 0 l.fn.disks.items → AreMarked g.H.D.Disk l.dir 0 l.disks.items;
  begun : g.H.Shelf.tells → HaveBegun g.H.D.Disk (g.H.Shelf.files l.fn.shelf) l.dir 0 l.fn.disks.items
      → HaveBegun g.H.D.Disk (g.H.Shelf.files l.fn.shelf) l.dir 0 l.disks.items;
  kept : g.H.Shelf.tells → AreKept l.dir l.number (g.H.Shelf.files l.fn.shelf) (g.H.Shelf.files l.shelf);
  faults : g.H.Shelf.faults l.fn.shelf ≤ g.H.Shelf.faults l.shelf;
  low : 1 ≤ l.number;
  high : l.number ≤ l.slots + 1;
  room : vec_capacity l.disks ≡ vec_capacity l.fn.disks;
}
