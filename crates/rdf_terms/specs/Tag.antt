-- What a language tag is.
use Rattle.std.specs.Prelude.{◌≡◌, ℕ, Bool, ◌<◌, List, [], ◌∷◌, ◌++◌}
use Rattle.std.specs.Prelude.{length, map, IsTrue, if◌then◌else◌}
use Rattle.std.specs.List.{list_all, flat_map}
use Rattle.std.specs.Char.{is_ascii_alphabetic, is_ascii_alphanumeric, to_ascii_lowercase}

-- some characters, each of which passes the test
abbrev pub IsWord : (ℕ → Bool) → List ℕ → Type 0
IsWord test word = (0 < length word) × IsTrue (list_all test word)

-- each of them is such a word
abbrev pub AreWords : (ℕ → Bool) → List (List ℕ) → Type 0
AreWords test [] = Unit {0}
AreWords test (word ∷ words) = IsWord test word × AreWords test words

-- letters, then any number of dashes with letters and digits behind each
abbrev pub TagForm : List ℕ → Type 0
TagForm bytes = (first : List ℕ) × (parts : List (List ℕ)) × IsWord is_ascii_alphabetic first
    × AreWords is_ascii_alphanumeric parts × (bytes ≡ first ++ flat_map (λ part. 45 ∷ part) parts)

-- letters in lower case, all else as it is
abbrev pub lower : List ℕ → List ℕ
lower bytes = map to_ascii_lowercase bytes

-- a tag as it is kept: in lower case
unfoldable pub IsTag : List ℕ → Type 0
IsTag bytes = TagForm bytes × (lower bytes ≡ bytes)

-- a letter, or behind the first dash a letter or a digit
abbrev pub is_tag_char : Bool → ℕ → Bool
is_tag_char first c = if first then is_ascii_alphabetic c else is_ascii_alphanumeric c
