-- What the files and their spares hold.
use Rattle.std.specs.Prelude.{◌≡◌, ℕ, ◌+◌, ◌<◌, ◌≤◌, Bool, true, false, Option}
use Rattle.std.specs.Prelude.{List, [], length, map, count_by, slice_index, slice_index_or}
use Rattle.delta_base.specs.Outside.{Rose}
use Rattle.disk_model.specs.Past.{Past, began, reads, EveryImage, Keeps}
use Rattle.log_journal.specs.File.{HoldsIn, Holds, HoldsInEither}
use Rattle.log_journal.specs.Reading.{length_in, limit_for}
use Rattle.log_journal.specs.declared.form.Form.{Form}
use Rattle.log_journal.specs.declared.form.Form.TheVariants.{Old, New}
use Rattle.journal_upgrade.specs.Numbers.{limits_of}

-- the writes and syncs of the disk at a place in a list
abbrev pub past_at : {D : Type 0} → (D → Past) → List D → ℕ → Past
past_at past disks i = slice_index_or (map past disks) i (began [])

-- of each disk a crash leaves what it might have left before, and a read gives what it gave
pub record AreKept {D : Type 0} (past : D → Past) (old new : List D) : Type 0 where
  pub as_many : length new ≡ length old
  pub each : (i : ℕ) → i < length old → Keeps (past_at past old i) (past_at past new i)

-- of each disk a crash leaves what a read gives
abbrev pub AreSynced : {D : Type 0} → (D → Past) → List D → Type 0
AreSynced past disks = (i : ℕ) → i < length disks
    → EveryImage (past_at past disks i) (λ image. image ≡ reads (past_at past disks i))

-- every image of one disk holds payloads in either form, and every image of the other the same
-- ones as they are written
pub record IsCopy (from_number to_number : ℕ) (from to : Past) : Type 0 where
  pub payloads : List (List ℕ)
  pub of_from : EveryImage from (λ image. HoldsInEither image from_number payloads)
  pub of_to : EveryImage to (λ image. Holds image to_number payloads)

-- so for each number, with what is added to it on either side
abbrev pub AreCopies : {D : Type 0} → (D → Past) → ℕ → ℕ → List ℕ → List D → List D → Type 0
AreCopies past from_more to_more numbers froms tos = (i : ℕ) → i < length numbers
    → IsCopy (slice_index numbers i + from_more) (slice_index numbers i + to_more)
    (past_at past froms i) (past_at past tos i)

-- the number of a spare is that of its file and 2000 more
abbrev pub AreCopied : {D : Type 0} → (D → Past) → List ℕ → List D → List D → Type 0
AreCopied past numbers files spares = AreCopies past 0 2000 numbers files spares

abbrev pub AreRestored : {D : Type 0} → (D → Past) → List ℕ → List D → List D → Type 0
AreRestored past numbers files spares = AreCopies past 2000 0 numbers spares files

-- the file is whole in this form, and within the limit of a file with this number
pub record IsWell (form : Form) (number : ℕ) (file : List ℕ) (header : ℕ) : Type 0 where
  pub payloads : List (List ℕ)
  pub holds : HoldsIn form file header payloads
  pub within : length_in form payloads ≤ limit_for form (limits_of number)

-- the files are whole in these forms
pub record AreWell {D : Type 0} (past : D → Past) (more : ℕ) (numbers : List ℕ)
    (disks : List D) (forms : List Form) : Type 0 where
  pub as_many : length forms ≡ length numbers
  pub each : (i : ℕ) → i < length numbers
      → IsWell (slice_index_or forms i New) (slice_index numbers i)
      (reads (past_at past disks i)) (slice_index numbers i + more)

-- a file was whole in this form, and every image of a disk holds its payloads as they are written
pub record IsBrought (form : Form) (number from_number to_number : ℕ) (old : List ℕ)
    (new : Past) : Type 0 where
  pub payloads : List (List ℕ)
  pub held : HoldsIn form old from_number payloads
  pub within : length_in form payloads ≤ limit_for form (limits_of number)
  pub holds : EveryImage new (λ image. Holds image to_number payloads)

-- so for each number, with what is added to it on either side
pub record AreBrought {D : Type 0} (past : D → Past) (from_more to_more : ℕ)
    (numbers : List ℕ) (olds : List D) (forms : List Form) (news : List D) : Type 0 where
  pub as_many : length forms ≡ length numbers
  pub each : (i : ℕ) → i < length numbers
      → IsBrought (slice_index_or forms i New) (slice_index numbers i)
      (slice_index numbers i + from_more) (slice_index numbers i + to_more)
      (reads (past_at past olds i)) (past_at past news i)

abbrev pub is_old : Form → Bool
is_old Old = true
is_old New = false

-- how many of them are of the old form
abbrev pub count_old : List Form → ℕ
count_old forms = count_by is_old forms

-- the count of faults of one of the disks rose
abbrev pub OneRose : {D : Type 0} → (D → ℕ) → List D → List D → Type 0
OneRose faults old new = (i : ℕ) × (i < length old)
    × Rose (slice_index (map faults old) i) (slice_index (map faults new) i)

-- the counts of faults are the same
abbrev pub SameFaults : {D : Type 0} → (D → ℕ) → List D → List D → Type 0
SameFaults faults old new = map faults new ≡ map faults old

-- no call changes which files the disks stand for
abbrev pub SameMarks : {D : Type 0} → (D → Option (List ℕ × ℕ)) → List D → List D → Type 0
SameMarks mark old new = map mark new ≡ map mark old
