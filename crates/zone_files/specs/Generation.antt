-- In which generation a file of a zone is.
use Rattle.std.specs.Prelude.{◌≡◌, ◌⊎◌, ℕ, nat_lt, Bool, true, false, List, [], ◌∷◌, take}
use Rattle.std.specs.Prelude.{Option, Some, None, if◌then◌else◌}
use Rattle.log_journal.specs.Front.{HoldsNothing, HasFirst}
use Rattle.checkpoint_line.specs.declared.first.FirstLine.{FirstLine}
use Rattle.checkpoint_line.specs.First.{HasFirstLine}
use Rattle.zone_files.specs.declared.file.TheConstants.{ZONE_NUMBER, SECOND_NUMBER}

-- the number of the second file, or of the first
abbrev pub number_of : Bool → ℕ
number_of second = if second then SECOND_NUMBER else ZONE_NUMBER

-- `Z` and a space stand at its front
abbrev pub IsMarked : List ℕ → Type 0
IsMarked payload = (rest : List ℕ) × (payload ≡ 90 ∷ 32 ∷ rest)

-- without a checkpoint the first file is in generation 0, and the second in none
abbrev pub unmarked : Bool → Option ℕ
unmarked second = if second then None else Some 0

-- what is read of a file's front begins with the first line of a checkpoint of this generation
pub record BeginsCheckpoint (payload : List ℕ) (generation : ℕ) : Type 0 where
  pub first : FirstLine
  pub begins : HasFirstLine (take 64 payload) first
  pub generation_is : generation ≡ first.generation

-- what is read of a file's front begins as a checkpoint, and not with the first line of one
pub record BeginsBroken (file : List ℕ) (second : Bool) : Type 0 where
  pub payload : List ℕ
  pub first : HasFirst file (number_of second) payload
  pub marked : IsMarked (take 64 payload)
  pub none : (line : FirstLine) → HasFirstLine (take 64 payload) line → ⊥

-- a file with this first payload is in this generation
abbrev pub ShowsGeneration : Bool → List ℕ → Option ℕ → Type 0
ShowsGeneration second payload generation =
    ((IsMarked payload → ⊥) × (generation ≡ unmarked second))
    ⊎ ((shown : ℕ) × BeginsCheckpoint payload shown × (generation ≡ Some shown))

-- the file is in this generation
abbrev pub IsInGeneration : List ℕ → Bool → Option ℕ → Type 0
IsInGeneration file second generation =
    (HoldsNothing file (number_of second) × (generation ≡ unmarked second))
    ⊎ ((payload : List ℕ) × HasFirst file (number_of second) payload
    × ShowsGeneration second payload generation)

-- a file with these payloads is in this generation
abbrev pub PayloadsShow : Bool → List (List ℕ) → Option ℕ → Type 0
PayloadsShow second [] generation = generation ≡ unmarked second
PayloadsShow second (payload ∷ payloads) generation = ShowsGeneration second payload generation

-- the second file is in a later generation than the first, and so it is current
abbrev pub is_later : Option ℕ → Option ℕ → Bool
is_later first None = false
is_later None (Some g) = true
is_later (Some h) (Some g) = nat_lt h g
