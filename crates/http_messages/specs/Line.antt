-- How far a chunk line was followed that has not ended.
use Rattle.std.specs.Prelude.{◌≡◌, ◌<◌, ◌≤◌, ℕ, Bool, true, false, List, ◌∷◌, ◌++◌, length}
use Rattle.std.specs.Char.{is_ascii_hexdigit}
use Rattle.httparse.specs.Grammar.{AllPass, is_ows, is_extension_byte}
use Rattle.http_messages.specs.declared.line.LineAt.{LineAt}
use Rattle.http_messages.specs.declared.line.LineAt.TheVariants.{Size, Extension, Unknown}

-- the size of a chunk: 1*16HEXDIG
abbrev pub IsSize : List ℕ → Type 0
IsSize digits = (0 < length digits) × (length digits ≤ 16) × AllPass is_ascii_hexdigit digits

-- what the text is
abbrev pub FollowsLine : List ℕ → LineAt → Type 0
FollowsLine text Size =
    (digits : List ℕ) × (pad : List ℕ) × IsSize digits × AllPass is_ows pad × (text ≡ digits ++ pad)
FollowsLine text Extension =
    (digits : List ℕ) × (pad : List ℕ) × (extension : List ℕ) × IsSize digits
    × AllPass is_ows pad × AllPass is_extension_byte extension
    × (text ≡ digits ++ (pad ++ 59 ∷ extension))
FollowsLine text Unknown = Unit {0}

-- whether the line was followed up to its end
abbrev pub is_followed : LineAt → Bool
is_followed Size = true
is_followed Extension = true
is_followed Unknown = false
