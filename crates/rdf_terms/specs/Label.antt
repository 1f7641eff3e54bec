-- What a blank node's label is.
use Rattle.std.specs.Prelude.{◌≡◌, ℕ, Bool, true, false, List, [], ◌∷◌}
use Rattle.std.specs.Prelude.{IsTrue, ◌==◌, ◌||◌, not, Option, Some, None}
use Rattle.std.specs.Str.{encode_utf8_all}
use lib.Utf8.{scalars}
use Rattle.rdf_terms.specs.Names.{is_name_char, begins_name}

-- a character that may stand inside a label: of PN_CHARS, or a dot
abbrev pub is_inner : ℕ → Bool
is_inner c = c == 46 || is_name_char c

-- the characters behind the first: name characters and dots, the last no dot
abbrev pub AreInner : List ℕ → Type 0
AreInner [] = Unit {0}
AreInner (c ∷ []) = IsTrue (is_name_char c)
AreInner (c ∷ d ∷ cs) = IsTrue (is_inner c) × AreInner (d ∷ cs)

-- the characters of a label: (PN_CHARS_U | [0-9]) ((PN_CHARS | '.')* PN_CHARS)?
abbrev pub LabelChars : List ℕ → Type 0
LabelChars [] = ⊥
LabelChars (first ∷ cs) = IsTrue (begins_name first) × AreInner cs

-- a label, in UTF-8
unfoldable pub IsLabel : List ℕ → Type 0
IsLabel bytes = (cs : List ℕ) × (scalars cs ≡ true) × (bytes ≡ encode_utf8_all cs) × LabelChars cs

-- whether a character may follow the last one
abbrev pub may_follow : Option ℕ → ℕ → Bool
may_follow None c = begins_name c
may_follow (Some last) c = is_inner c

-- whether a label may end behind the last character
abbrev pub may_end : Option ℕ → Bool
may_end None = false
may_end (Some last) = not (last == 46)
