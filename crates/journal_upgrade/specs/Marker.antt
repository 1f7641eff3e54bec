-- What the marker of an upgrade holds.
use Rattle.std.specs.Prelude.{◌⊎◌, ℕ, List, [], ◌∷◌}
use Rattle.log_journal.specs.File.{Holds}
use Rattle.log_journal.specs.Front.{HoldsNothing, HasFirst}

-- no payload stands in it
abbrev pub IsUnmarked : List ℕ → ℕ → Type 0
IsUnmarked image number = (payload : List ℕ) → HasFirst image number payload → ⊥

-- a payload stands in it
abbrev pub IsMarked : List ℕ → ℕ → Type 0
IsMarked image number = (payload : List ℕ) × HasFirst image number payload

-- it holds `U` alone
abbrev pub HasMark : List ℕ → ℕ → Type 0
HasMark image number = Holds image number ((85 ∷ []) ∷ [])

-- nothing stands in it, or the mark
abbrev pub IsMarking : ℕ → List ℕ → Type 0
IsMarking number image = HoldsNothing image number ⊎ HasMark image number
