-- Where a text stops fitting a form.
use Rattle.std.specs.Prelude.{◌≡◌, ℕ, true, List, [], ◌∷◌, ◌++◌, length}
use Rattle.std.specs.Str.{encode_utf8_all}
use lib.Utf8.{scalars}

-- some text of the form begins so
abbrev pub Begins : (List ℕ → Type 0) → List ℕ → Type 0
Begins Form front = (more : List ℕ) × Form (front ++ more)

-- the next character can't follow, or there is none and the text isn't whole
abbrev pub Misfits : (List ℕ → Type 0) → List ℕ → List ℕ → Type 0
Misfits Form front [] = Form front → ⊥
Misfits Form front (c ∷ rest) = Begins Form (front ++ c ∷ []) → ⊥

-- the place of the first character that no text of the form with the same characters before it has
-- there, or the text's length
abbrev pub FirstMisfit : (List ℕ → Type 0) → List ℕ → ℕ → Type 0
FirstMisfit Form cs at = (front rest : List ℕ) × (cs ≡ front ++ rest)
    × (at ≡ length (encode_utf8_all front)) × Begins Form front × Misfits Form front rest

-- the same for a text in UTF-8
abbrev pub StopsFitting : (List ℕ → Type 0) → List ℕ → ℕ → Type 0
StopsFitting Form text at =
    (cs : List ℕ) × (scalars cs ≡ true) × (text ≡ encode_utf8_all cs) × FirstMisfit Form cs at
