use Rattle.std.proofs.Common.{◌≡◌, ◌<◌, ◌≤◌, ◌++◌, List, ℕ, length, vec_len}
use Rattle.delta_base.specs.Outside.{Rose}
use Rattle.turn_cell.specs.Turns.{IsIn}
use Rattle.delta_server.specs.Files.{AreMarked}
use Rattle.delta_server.proofs.Shelving.{AreBack}
use Rattle.delta_server.proofs.files.put_back.Given as goal

-- those at the end are back
abbrev pub invariant-loop-disk : goal.invariant-loop-disk
invariant-loop-disk g l =
    (back : List g.row.H-D.Denot) × (l.fn.disks.items ≡ l.disks.items ++ back)
    × (g.H.Shelf.tells → (dir : List ℕ) → AreMarked g.H.D.Disk dir 0 l.fn.disks.items
    → AreBack g.H.D.Disk dir (length l.disks.items) back (g.H.Shelf.files l.fn.shelf) (g.H.Shelf.files l.shelf))
    × (g.H.Shelf.faults l.fn.shelf ≤ g.H.Shelf.faults l.shelf)
    × ((disk : g.row.H-D.Denot) → IsIn disk back → 0 < g.H.D.Disk.faults disk → Rose (g.H.Shelf.faults l.fn.shelf) (g.H.Shelf.faults l.shelf))

abbrev pub decreases-loop-disk : goal.decreases-loop-disk
decreases-loop-disk g l = vec_len l.disks
