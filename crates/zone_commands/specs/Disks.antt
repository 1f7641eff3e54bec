-- The two files of a zone in a directory, and their disks.
use Rattle.std.specs.Prelude.{◌≡◌, ℕ, ◌+◌, List, Some}
use Rattle.disk_model.specs.declared.disk.Disk.{Ghosts}
use Rattle.disk_model.specs.declared.shelf.ShelfFault.{ShelfFault}
use Rattle.disk_model.specs.declared.shelf.ShelfFault.TheVariants as shelf
use Rattle.disk_model.specs.Past.{began}
use Rattle.slot_files.specs.Files.{Files, IsKept, SameBut, bytes_at}
use Rattle.zone_files.specs.declared.file.TheConstants.{ZONE_NUMBER, SECOND_NUMBER}
use Rattle.paired_zone.specs.declared.fault.PairFault.{PairFault}
use Rattle.paired_zone.specs.declared.fault.PairFault.TheVariants.{Failed, OutOfMemory}

-- ---- the files

-- the bytes of the first file of a directory's zone, and those of the second
abbrev pub first_bytes : Files → List ℕ → List ℕ
first_bytes files dir = bytes_at files dir ZONE_NUMBER

abbrev pub second_bytes : Files → List ℕ → List ℕ
second_bytes files dir = bytes_at files dir SECOND_NUMBER

-- every file but these two is as it was
abbrev pub SameButZone : List ℕ → Files → Files → Type 0
SameButZone dir old new = SameBut dir ZONE_NUMBER (SECOND_NUMBER + 1) old new

-- both were kept, and every other file is as it was
pub record KeepsZoneFiles (dir : List ℕ) (old new : Files) : Type 0 where
  pub first : IsKept (old dir ZONE_NUMBER) (new dir ZONE_NUMBER)
  pub second : IsKept (old dir SECOND_NUMBER) (new dir SECOND_NUMBER)
  pub others : SameButZone dir old new

-- they have these bytes, and every other file is as it was
pub record ZoneFilesHave (dir first second : List ℕ) (old new : Files) : Type 0 where
  pub first_has : new dir ZONE_NUMBER ≡ Some first
  pub second_has : new dir SECOND_NUMBER ≡ Some second
  pub others : SameButZone dir old new

-- ---- their disks

-- why the disk of a file isn't given
abbrev pub fault_of_shelf : ℕ → ShelfFault → PairFault
fault_of_shelf file shelf.Failed = Failed file
fault_of_shelf file shelf.OutOfMemory = OutOfMemory

module _ {D : Type 0} (disks : Ghosts D) where
  -- the disks are those of the two files
  pub record AreZoneDisks (dir : List ℕ) (first second : D) : Type 0 where
    pub first_mark : disks.mark first ≡ Some (dir, ZONE_NUMBER)
    pub second_mark : disks.mark second ≡ Some (dir, SECOND_NUMBER)

  -- as a shelf with these files gives them
  pub record AreFreshDisks (dir : List ℕ) (files : Files) (first second : D) : Type 0 where
    pub are_theirs : AreZoneDisks dir first second
    pub first_began : disks.past first ≡ began (first_bytes files dir)
    pub second_began : disks.past second ≡ began (second_bytes files dir)
