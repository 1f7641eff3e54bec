use Rattle.std.proofs.Common.{◌≡◌, ◌<◌, ◌≤◌, ◌++◌, List, ℕ, length, map, vec_len}
use Rattle.std.specs.Prelude.{slice_index}
use Rattle.delta_base.specs.Outside.{Rose}
use Rattle.journal_upgrade.specs.Numbers.{Differ}
use Rattle.directory_upgrade.specs.Sets.{HaveMarks, SameButThese}
use Rattle.directory_upgrade.proofs.PutBack.{HaveReadFrom}
use Rattle.directory_upgrade.proofs.putting.put_back_disks.Given as goal

-- those at the end are back
abbrev pub invariant-loop-disk : goal.invariant-loop-disk
invariant-loop-disk g l =
    (back : List g.row.H-D.Denot) × (l.fn.disks.items ≡ l.disks.items ++ back)
    × (g.H.Shelf.tells → (dir : List ℕ) (more : ℕ) (numbers : List ℕ) → Differ numbers → length l.fn.disks.items ≡ length numbers → HaveMarks g.H.D.Disk dir more numbers l.fn.disks.items
    → HaveReadFrom (length l.disks.items) (g.H.Shelf.files l.shelf) dir more numbers (map g.H.D.Disk.past l.fn.disks.items))
    × (g.H.Shelf.tells → (dir : List ℕ) (more : ℕ) (numbers : List ℕ) → length l.fn.disks.items ≡ length numbers → HaveMarks g.H.D.Disk dir more numbers l.fn.disks.items
    → SameButThese dir more numbers (g.H.Shelf.files l.fn.shelf) (g.H.Shelf.files l.shelf))
    × (g.H.Shelf.faults l.fn.shelf ≤ g.H.Shelf.faults l.shelf)
    × ((i : ℕ) → length l.disks.items ≤ i → i < length l.fn.disks.items → 0 < slice_index (map g.H.D.Disk.faults l.fn.disks.items) i
    → Rose (g.H.Shelf.faults l.fn.shelf) (g.H.Shelf.faults l.shelf))

abbrev pub decreases-loop-disk : goal.decreases-loop-disk
decreases-loop-disk g l = vec_len l.disks
