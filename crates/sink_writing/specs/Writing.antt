-- What is told of texts that are written.
use Rattle.std.specs.Prelude.{◌≡◌, ℕ, List, ◌++◌, Option}
use Rattle.std.specs.Borrow.{Bor}
use Rattle.std.specs.List.{flat_map}
use Rattle.std.specs.Io.KnownBytes.{Appends}

-- a front of the text was appended
abbrev pub AppendsFront : Option (List ℕ) → Option (List ℕ) → List ℕ → Type 0
AppendsFront old new text =
    (front : List ℕ) × (rest : List ℕ) × (text ≡ front ++ rest) × Appends old new front

-- the text was appended but for this rest
abbrev pub AppendsFirst : Option (List ℕ) → Option (List ℕ) → List ℕ → List ℕ → Type 0
AppendsFirst old new text rest = (front : List ℕ) × (text ≡ front ++ rest) × Appends old new front

-- the bytes of texts, one after another
abbrev pub joined : List (Bor (List ℕ)) → List ℕ
joined texts = flat_map (λ t. t.now) texts
