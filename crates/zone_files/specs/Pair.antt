-- What the two files of a zone hold together.
use Rattle.std.specs.Prelude.{◌≡◌, ◌⊎◌, ℕ, Bool, true, false, not, List, [], ◌∷◌}
use Rattle.std.specs.Prelude.{Option, Some, if◌then◌else◌}
use Rattle.log_journal.specs.File.{Holds}
use Rattle.zone_files.specs.Generation.{number_of, IsInGeneration, is_later}

-- The images of both files hold something: the payloads of the current one stand for it. In which
-- generation payloads stand for what is for the caller to say.
pub record HoldTogether {B : Type 0} (Stands : ℕ → List (List ℕ) → B → Type 0)
    (first second : List ℕ) (held : B) : Type 0 where
  pub of_first : Option ℕ
  pub of_second : Option ℕ
  pub first_is : IsInGeneration first false of_first
  pub second_is : IsInGeneration second true of_second
  -- the generation of the current file, and its payloads
  pub generation : ℕ
  pub payloads : List (List ℕ)
  pub in_generation : (if is_later of_first of_second then of_second else of_first)
      ≡ Some generation
  pub holds : Holds (if is_later of_first of_second then second else first)
      (number_of (is_later of_first of_second)) payloads
  pub stands : Stands generation payloads held

-- where the second file is current in this generation, or the first, the other isn't
abbrev pub IsEarlier : Bool → ℕ → Option ℕ → Type 0
IsEarlier true g other = is_later other (Some g) ≡ true
IsEarlier false g other = is_later (Some g) other ≡ false

-- the image of the other file leaves the current one as it is
abbrev pub IsBehind : Bool → ℕ → List ℕ → Type 0
IsBehind second g image =
    (other : Option ℕ) × IsInGeneration image (not second) other × IsEarlier second g other

-- the image of the other file leaves the current one as it is, or holds the next checkpoint alone
abbrev pub MayBeOther : Bool → ℕ → List ℕ → List ℕ → Type 0
MayBeOther second g next image =
    IsBehind second g image ⊎ Holds image (number_of (not second)) (next ∷ [])

-- the images of the current and the other file as those of the first and the second
abbrev pub HoldByRole : {B : Type 0} → (ℕ → List (List ℕ) → B → Type 0) → Bool
    → List ℕ → List ℕ → B → Type 0
HoldByRole Stands true current other held = HoldTogether Stands other current held
HoldByRole Stands false current other held = HoldTogether Stands current other held
