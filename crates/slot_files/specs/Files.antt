-- The files of a registry and its logs, as they are made.
use Rattle.std.specs.Prelude.{◌≡◌, ◌⊎◌, ℕ, zero, suc, ◌+◌, ◌<◌, ◌≤◌, List}
use Rattle.std.specs.Prelude.{[], ◌∷◌, length, Option, Some, None, unwrap_or}
use Rattle.log_journal.specs.File.{file_of}
use Rattle.registry_core.specs.Texts.{slots_payload}

-- what a shelf has for each directory and number
abbrev pub Files : Type 0
Files = List ℕ → ℕ → Option (List ℕ)

-- the bytes of a file, and none where there is no file
abbrev pub bytes_at : Files → List ℕ → ℕ → List ℕ
bytes_at files dir number = unwrap_or (files dir number) []

-- the files of a directory from 1 on and below `end` had no bytes, and are now empty journals
-- of their numbers
pub record AreMade (dir : List ℕ) (end : ℕ) (old new : Files) : Type 0 where
  pub were_empty : (number : ℕ) → 1 ≤ number → number < end → bytes_at old dir number ≡ []
  pub are_journals : (number : ℕ) → 1 ≤ number → number < end
      → new dir number ≡ Some (file_of number [])

-- all files are as they were, but for those of a directory from `first` on and below `end`
pub record SameBut (dir : List ℕ) (first end : ℕ) (old new : Files) : Type 0 where
  pub elsewhere : (other : List ℕ) (number : ℕ) → (other ≡ dir → ⊥)
      → new other number ≡ old other number
  pub here : (number : ℕ) → (number < first) ⊎ (end ≤ number) → new dir number ≡ old dir number

-- the logs' files and then the registry's, which holds the number of slots
pub record IsInitial (dir : List ℕ) (slots : ℕ) (old new : Files) : Type 0 where
  pub logs : AreMade dir (slots + 1) old new
  pub was_empty : bytes_at old dir 0 ≡ []
  pub registry : new dir 0 ≡ Some (file_of 0 (slots_payload slots ∷ []))

-- the files are made from 1 on, and file 0 last: those made before this one are below this end
abbrev pub end_before : ℕ → ℕ → ℕ
end_before slots zero = slots + 1
end_before slots (suc number) = suc number

-- this file has bytes, the files before it had none and are made, and no other was touched
pub record StopsAt (dir : List ℕ) (slots number size : ℕ) (old new : Files) : Type 0 where
  pub within : number ≤ slots
  pub size_is : size ≡ length (bytes_at old dir number)
  pub has_bytes : 0 < size
  pub made : AreMade dir (end_before slots number) old new
  pub others : SameBut dir 1 (end_before slots number) old new

-- the files of a directory that had bytes are as they were
abbrev pub KeepsFull : List ℕ → Files → Files → Type 0
KeepsFull dir old new =
    (number : ℕ) → 0 < length (bytes_at old dir number) → new dir number ≡ old dir number

-- a file is as it was; where there was none, there may be an empty one
abbrev pub IsKept : Option (List ℕ) → Option (List ℕ) → Type 0
IsKept old new = (new ≡ old) ⊎ ((old ≡ None) × (new ≡ Some []))
