-- What a window holds of its text.
use Rattle.std.specs.Prelude.{◌≡◌, ℕ, ◌+◌, ◌-◌, ◌^◌, ◌<◌, ◌≤◌, true, List}
use Rattle.std.specs.Prelude.{◌++◌, length, drop, Option, Some, None, IfSome}
use Rattle.patch_rows.specs.Cut.{is_cut}
use Rattle.patch_rows.specs.Reading.{space_behind, skip_space}
use Rattle.patch_rows.specs.declared.cut.TextEnd.{TextEnd}
use Rattle.patch_rows.specs.declared.cut.TextEnd.TheVariants as ends
use Rattle.patch_reader.specs.declared.front.Region.{Region}
use Rattle.patch_reader.specs.declared.front.Region.TheVariants as regions
use Rattle.patch_reader.specs.Places.{feeds_before}
use Rattle.patch_reader.specs.Progress.{HasFollowed, IsProgressWithin}
use Rattle.patch_reader.specs.Rows.{NothingDecided, KeepsText}

-- from behind the last row on, white space and comments are passed up to this place, from which
-- `rest` stands, or a row begins there
abbrev pub IsRegion : List ℕ → ℕ → ℕ → List ℕ → Region → Type 0
IsRegion text passed at rest (regions.Gap comment) = (more : List ℕ)
    → skip_space (drop passed (text ++ more)) ≡ space_behind comment 0 (drop at (text ++ more))
IsRegion text passed at rest (regions.Row progress) =
    ((more : List ℕ) → skip_space (drop passed (text ++ more)) ≡ drop at (text ++ more))
    × ((more : List ℕ) → skip_space (drop at (text ++ more)) ≡ drop at (text ++ more))
    × (at < length text) × IfSome progress (HasFollowed rest)

-- what is known of a row lies within so many bytes
abbrev pub IsKnownWithin : ℕ → Region → Type 0
IsKnownWithin size (regions.Gap comment) = Unit {0}
IsKnownWithin size (regions.Row progress) = IfSome progress (IsProgressWithin size)

-- no more white space and comments can be passed: nothing stands there, the front of a character,
-- or a row with what is known of it
abbrev pub IsStuck : List ℕ → Region → Type 0
IsStuck rest (regions.Gap comment) = is_cut rest ≡ true
IsStuck rest (regions.Row progress) = IsKnownWithin (length rest) (regions.Row progress)

-- behind the place up to which rows were read this is the rest of the text, and what stands
-- at its front
abbrev pub IsRest : List ℕ → ℕ → ℕ → List ℕ → Region → Type 0
IsRest text passed at rest region =
    KeepsText text at rest × (passed ≤ at) × IsRegion text passed at rest region

-- where a row begins there that wasn't read yet
abbrev pub row_place : ℕ → Region → Option ℕ
row_place at (regions.Gap comment) = None
row_place at (regions.Row None) = Some at
row_place at (regions.Row (Some progress)) = None

-- The text is kept from a place on, `at` bytes of what is kept were read, and so many line feeds
-- stand before that. Each place and line has a number.
pub record HoldsText (text : List ℕ) (passed from : ℕ) (kept : List ℕ)
    (feeds at : ℕ) (region : Region) : Type 0 where
  pub keeps : KeepsText text from kept
  pub within : at ≤ length kept
  pub rest : IsRest text passed (from + at) (drop at kept) region
  pub stuck : IsStuck (drop at kept) region
  pub feeds_are : feeds ≡ feeds_before text from
  pub fits : length text < 2 ^ 64 - 1

-- behind the last row and where the rest begins the same stands behind white space and comments:
-- whatever follows, or in the whole text
abbrev pub IsSameGap : TextEnd → List ℕ → ℕ → ℕ → Type 0
IsSameGap ends.Open text passed at =
    (more : List ℕ) → skip_space (drop passed (text ++ more)) ≡ skip_space (drop at (text ++ more))
IsSameGap ends.Known text passed at = skip_space (drop passed text) ≡ skip_space (drop at text)

-- whatever text it is the rest of, no row and no fault is decided in it
abbrev pub DecidesNothing : List ℕ → Region → Type 0
DecidesNothing rest region = (text : List ℕ) (passed at : ℕ) → IsRest text passed at rest region
    → IsStuck rest region → NothingDecided text passed

-- whatever text it is the rest of, a row or a fault is decided in it
abbrev pub IsDecided : List ℕ → Region → Type 0
IsDecided rest region = (text : List ℕ) (passed at : ℕ) → IsRest text passed at rest region
    → NothingDecided text passed → ⊥

-- it has all that stands behind the last row
abbrev pub HasAll : TextEnd → List ℕ → Region → Type 0
HasAll end rest region = (text : List ℕ) (passed at : ℕ) → IsRest text passed at rest region
    → IsStuck rest region → IsSameGap end text passed at

-- white space and comments at its front are passed
abbrev pub PassesGap : List ℕ → Region → ℕ → Region → Type 0
PassesGap rest old size new = (text : List ℕ) (passed at : ℕ) → IsRest text passed at rest old
    → IsRest text passed (at + size) (drop size rest) new

-- the same stands there, of which other things may be known
abbrev pub StaysThere : List ℕ → Region → Region → Type 0
StaysThere rest old new = (IsStuck rest old → IsStuck rest new)
    × ((text : List ℕ) (passed at : ℕ) → IsRest text passed at rest old
    → IsRest text passed at rest new)
