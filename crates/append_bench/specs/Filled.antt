-- Which file of a directory is filled.
use Rattle.std.specs.Prelude.{◌≡◌, ℕ, ◌+◌, ◌<◌, List, [], length, Some}
use Rattle.log_journal.specs.File.{file_of}
use Rattle.slot_files.specs.Files.{Files, bytes_at, SameBut}

-- the files of a directory below this number have bytes
abbrev pub AreFull : List ℕ → ℕ → Files → Type 0
AreFull dir end files = (number : ℕ) → number < end → 0 < length (bytes_at files dir number)

-- the first file without bytes is a journal of these payloads now, and every other file is
-- as it was
pub record FillsFirst (dir : List ℕ) (payloads : List (List ℕ)) (old new : Files) : Type 0 where
  pub number : ℕ
  pub before : AreFull dir number old
  pub was_empty : bytes_at old dir number ≡ []
  pub filled : new dir number ≡ Some (file_of number payloads)
  pub others : SameBut dir number (number + 1) old new
