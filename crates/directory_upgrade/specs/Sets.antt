-- The files of a set in a directory, and their disks.
use Rattle.std.specs.Prelude.{◌≡◌, ◌⊎◌, ℕ, Bool, true, false, ◌+◌, ◌<◌, List, map, length, Some, None}
use Rattle.std.specs.Prelude.{slice_index, slice_index_or}
use Rattle.disk_model.specs.declared.disk.Disk.{Ghosts}
use Rattle.disk_model.specs.Past.{Past, began, reads, Keeps}
use Rattle.log_journal.specs.Front.{HoldsNothing}
use Rattle.slot_files.specs.Files.{Files, IsKept, bytes_at}
use Rattle.slot_checks.specs.declared.marker.TheConstants.{FILES_MARKER, ZONE_MARKER}
use Rattle.journal_upgrade.specs.Copies.{past_at, AreKept}
use Rattle.journal_upgrade.specs.Marker.{IsMarked}

abbrev pub itself : Past → Past
itself past = past

-- what this marker says: a payload stands in it, or nothing
abbrev pub MarkerSays : Bool → List ℕ → ℕ → Type 0
MarkerSays true image number = IsMarked image number
MarkerSays false image number = HoldsNothing image number

-- what disks have gone through that were just opened over the files with these numbers; so much is
-- added to the numbers
abbrev pub opened_over : Files → List ℕ → ℕ → List ℕ → List Past
opened_over files dir more numbers =
    map (λ number. began (bytes_at files dir (number + more))) numbers

-- this is the number of one of the files
abbrev pub IsOneOf : ℕ → List ℕ → ℕ → Type 0
IsOneOf more numbers number =
    (i : ℕ) × (i < length numbers) × (number ≡ slice_index numbers i + more)

-- every file but these is as it was
pub record SameButThese (dir : List ℕ) (more : ℕ) (numbers : List ℕ) (old new : Files)
    : Type 0 where
  pub elsewhere : (other : List ℕ) (number : ℕ) → (other ≡ dir → ⊥)
      → new other number ≡ old other number
  pub here : (number : ℕ) → (IsOneOf more numbers number → ⊥)
      → new dir number ≡ old dir number

-- the number of a marker of an upgrade
abbrev pub IsMarkerNumber : ℕ → Type 0
IsMarkerNumber number = (number ≡ FILES_MARKER) ⊎ (number ≡ ZONE_MARKER)

-- that of a file of a set, of a spare or of the marker
abbrev pub IsOfSet : ℕ → List ℕ → ℕ → Type 0
IsOfSet marker numbers number =
    IsOneOf 0 numbers number ⊎ (IsOneOf 2000 numbers number ⊎ (number ≡ marker))

-- every file beside those of a set is as it was
pub record SameBeside (dir : List ℕ) (marker : ℕ) (numbers : List ℕ) (old new : Files)
    : Type 0 where
  pub elsewhere : (other : List ℕ) (number : ℕ) → (other ≡ dir → ⊥)
      → new other number ≡ old other number
  pub here : (number : ℕ) → (IsOfSet marker numbers number → ⊥)
      → new dir number ≡ old dir number

-- nothing stands in the marker with this number, and that is the number of a registry's spare
abbrev pub IsIdleSpare : Files → List ℕ → ℕ → ℕ → Type 0
IsIdleSpare files dir marker number =
    (number ≡ 2000) × HoldsNothing (bytes_at files dir marker) marker

-- each file of a set was kept, but for a registry's spare where nothing stands in the marker; and
-- no other was asked for
pub record AreKeptButSpare (dir : List ℕ) (marker : ℕ) (numbers : List ℕ) (old new : Files)
    : Type 0 where
  pub beside : SameBeside dir marker numbers old new
  pub kept : (number : ℕ)
      → IsKept (old dir number) (new dir number) ⊎ IsIdleSpare old dir marker number

-- the files have what their disks read
abbrev pub HaveRead : Files → List ℕ → ℕ → List ℕ → List Past → Type 0
HaveRead files dir more numbers disks = (i : ℕ) → i < length numbers
    → files dir (slice_index numbers i + more) ≡ Some (reads (past_at itself disks i))

-- the disks of a set were put back
pub record IsSetBack (dir : List ℕ) (marker : ℕ) (numbers : List ℕ) (files spares : List Past)
    (mark : Past) (old new : Files) : Type 0 where
  pub files_have : HaveRead new dir 0 numbers files
  pub spares_have : HaveRead new dir 2000 numbers spares
  pub marker_has : new dir marker ≡ Some (reads mark)
  pub beside : SameBeside dir marker numbers old new

module _ {D : Type 0} (disks : Ghosts D) where
  -- the disks are those of the directory's files with these numbers
  abbrev pub HaveMarks : List ℕ → ℕ → List ℕ → List D → Type 0
  HaveMarks dir more numbers taken = (i : ℕ) → i < length numbers
      → slice_index_or (map disks.mark taken) i None ≡ Some (dir, slice_index numbers i + more)

  -- the disk of a file, as a shelf gives it
  pub record IsOpened (dir : List ℕ) (number : ℕ) (files : Files) (disk : D) : Type 0 where
    pub mark : disks.mark disk ≡ Some (dir, number)
    pub past : disks.past disk ≡ began (bytes_at files dir number)

  -- The disks of a set, as they were taken from a directory: a crash leaves of each what its file
  -- had, but for a registry's spare where nothing stands in the marker.
  pub record IsTaken (dir : List ℕ) (old : Files) (numbers : List ℕ) (files spares : List D)
      (marker : D) (number : ℕ) : Type 0 where
    pub file_marks : HaveMarks dir 0 numbers files
    pub spare_marks : HaveMarks dir 2000 numbers spares
    pub marker_mark : disks.mark marker ≡ Some (dir, number)
    pub files_kept : AreKept itself (opened_over old dir 0 numbers) (map disks.past files)
    pub as_many_spares : length spares ≡ length numbers
    pub spares_kept : (i : ℕ) → i < length numbers
        → (IsIdleSpare old dir number (slice_index numbers i + 2000) → ⊥)
        → Keeps (began (bytes_at old dir (slice_index numbers i + 2000)))
        (past_at disks.past spares i)
    pub marker_kept : Keeps (began (bytes_at old dir number)) (disks.past marker)
    pub says : 0 < length numbers
        → (marked : Bool) × MarkerSays marked (bytes_at old dir number) number

  -- one of the disks has failed
  abbrev pub OneFailed : List D → Type 0
  OneFailed taken = (i : ℕ) × (i < length taken) × (0 < slice_index (map disks.faults taken) i)

  abbrev pub SetFailed : List D → List D → D → Type 0
  SetFailed files spares marker =
      OneFailed files ⊎ (OneFailed spares ⊎ (0 < disks.faults marker))
