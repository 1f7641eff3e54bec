-- The files of a directory and their disks.
use Rattle.std.specs.Prelude.{◌≡◌, ◌⊎◌, ℕ, ◌+◌, ◌≤◌, List, [], ◌∷◌, length, Some}
use Rattle.disk_model.specs.declared.disk.Disk.{Ghosts}
use Rattle.disk_model.specs.Past.{began, reads, Keeps}
use Rattle.slot_files.specs.Files.{Files, SameBut, bytes_at}
use Rattle.slot_checks.specs.Sound.{HoldsRegistry}

-- below this end is file 0 alone, or no file that the registry in file 0 has no slot for
abbrev pub IsWithinSaid : Files → List ℕ → ℕ → Type 0
IsWithinSaid files dir end =
    (end ≤ 1)
    ⊎ ((slots : ℕ) × (records : ℕ) × HoldsRegistry (bytes_at files dir 0) slots records
    × (end ≤ slots + 1))

module _ {D : Type 0} (disks : Ghosts D) where
  -- the disks are those of the directory's files from this number on
  abbrev pub AreMarked : List ℕ → ℕ → List D → Type 0
  AreMarked dir number [] = Unit {0}
  AreMarked dir number (disk ∷ more) =
      (disks.mark disk ≡ Some (dir, number)) × AreMarked dir (number + 1) more

  -- each disk began with what the file of its number has, from this number on, and still reads
  -- that, as any crash leaves it
  abbrev pub HaveBegun : Files → List ℕ → ℕ → List D → Type 0
  HaveBegun files dir number [] = Unit {0}
  HaveBegun files dir number (disk ∷ more) =
      Keeps (began (bytes_at files dir number)) (disks.past disk)
      × HaveBegun files dir (number + 1) more

  -- each file has what its disk reads, from this number on
  abbrev pub HaveRead : Files → List ℕ → ℕ → List D → Type 0
  HaveRead files dir number [] = Unit {0}
  HaveRead files dir number (disk ∷ more) =
      (files dir number ≡ Some (reads (disks.past disk))) × HaveRead files dir (number + 1) more

  -- the disks were put back: their files have what they read, and every other file is as it was
  pub record ArePutBack (dir : List ℕ) (left : List D) (old new : Files) : Type 0 where
    pub files : HaveRead new dir 0 left
    pub others : SameBut dir 0 (length left) old new
