-- The first line of a checkpoint.
use Rattle.std.specs.Prelude.{◌≡◌, ◌≢◌, ℕ, ◌<◌, ◌^◌, List, [], ◌∷◌, ◌++◌, length, slice_index}
use Rattle.std.specs.Prelude.{Option, Some, None}
use Rattle.std.specs.Fmt.{decimal}
use Rattle.checkpoint_line.specs.declared.first.FirstLine.{FirstLine}

-- a number of 64 bits
abbrev pub IsCount : ℕ → Type 0
IsCount n = n < 2 ^ 64

-- `Z G V B P Q` and a line feed, all five decimal
abbrev pub first_line : FirstLine → List ℕ
first_line l = 90 ∷ 32 ∷ (decimal l.generation ++ 32 ∷ (decimal l.patches ++ 32 ∷ (decimal l.bytes
    ++ 32 ∷ (decimal l.prefixes ++ 32 ∷ (decimal l.quads ++ 10 ∷ [])))))

-- each of the five has 64 bits
pub record AreCounts (l : FirstLine) : Type 0 where
  pub generation : IsCount l.generation
  pub patches : IsCount l.patches
  pub bytes : IsCount l.bytes
  pub prefixes : IsCount l.prefixes
  pub quads : IsCount l.quads

-- the text begins with this first line
abbrev pub HasFirstLine : List ℕ → FirstLine → Type 0
HasFirstLine text l = AreCounts l × ((behind : List ℕ) × (text ≡ first_line l ++ behind))

-- no byte is this one
abbrev pub IsWithout : ℕ → List ℕ → Type 0
IsWithout stop text = (k : ℕ) → k < length text → slice_index text k ≢ stop

-- the text up to a byte that ends it, and what stands behind
pub record IsCut (stop : ℕ) (text part rest : List ℕ) : Type 0 where
  pub parts : text ≡ part ++ stop ∷ rest
  pub clear : IsWithout stop part

-- the text begins with a number and the byte that ends it, and this stands behind
pub record IsNumberTo (stop : ℕ) (text : List ℕ) (number : ℕ) (rest : List ℕ) : Type 0 where
  pub parts : text ≡ decimal number ++ stop ∷ rest
  pub counts : IsCount number

-- the first line that the text begins with, and how long it is
abbrev pub ReadsFirst : List ℕ → Option (FirstLine × ℕ) → Type 0
ReadsFirst text (Some found) = HasFirstLine text found.0 × (found.1 ≡ length (first_line found.0))
ReadsFirst text None = (l : FirstLine) → HasFirstLine text l → ⊥
