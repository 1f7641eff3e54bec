-- What an IRI is: no forbidden character, and a scheme in front.
use Rattle.std.specs.Prelude.{◌≡◌, ◌++◌, length, ℕ, Bool, true, false, ◌==◌, nat_lt}
use Rattle.std.specs.Prelude.{◌||◌, ◌&&◌, not, List, [], ◌∷◌, if◌then◌else◌, IsTrue}
use Rattle.std.specs.List.{list_all}
use Rattle.std.specs.Char.{is_ascii_alphabetic, is_ascii_alphanumeric}

-- the characters that no IRI holds: those up to space, and < > " { } | ^ ` \
abbrev pub is_forbidden : ℕ → Bool
is_forbidden c = nat_lt c 33 || c == 60 || c == 62 || c == 34 || c == 123
    || c == 125 || c == 124 || c == 94 || c == 96 || c == 92

-- a byte that may stand behind the first letter of a scheme: a letter, a digit, + - .
abbrev pub is_scheme_byte : ℕ → Bool
is_scheme_byte b = is_ascii_alphanumeric b || b == 43 || b == 45 || b == 46

-- the rest of a scheme and its colon
unfoldable pub ends_scheme : List ℕ → Bool
ends_scheme [] = false
ends_scheme (b ∷ rest) = if b == 58 then true else (is_scheme_byte b && ends_scheme rest)

-- a letter, then letters, digits, + - . , then a colon
unfoldable pub has_scheme : List ℕ → Bool
has_scheme [] = false
has_scheme (b ∷ rest) = is_ascii_alphabetic b && ends_scheme rest

-- none of the bytes is forbidden
abbrev pub AllowedAll : List ℕ → Type 0
AllowedAll bytes = IsTrue (list_all (λ b. not (is_forbidden b)) bytes)

-- a forbidden byte stands there, and none before it
abbrev pub FirstForbidden : List ℕ → ℕ → Type 0
FirstForbidden text at = (front rest : List ℕ) × (c : ℕ) × (text ≡ front ++ c ∷ rest)
    × (at ≡ length front) × AllowedAll front × IsTrue (is_forbidden c)

-- the bytes of an IRI; the forbidden characters are all below 128, so they are single bytes
pub record IsIri (bytes : List ℕ) : Type 0 where
  pub allowed : AllowedAll bytes
  pub scheme : IsTrue (has_scheme bytes)
