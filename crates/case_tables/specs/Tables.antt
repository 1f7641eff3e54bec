-- Tables of rows of characters, and of names.
use Rattle.std.specs.Prelude.{ℕ, ◌+◌, Bool, true, ◌&&◌, nat_le, List, [], ◌∷◌, Option, map}
use Rattle.std.specs.List.{list_any, position}
use Rattle.std.specs.Str.{bytes_eq}
use Rattle.std.specs.Borrow.{Bor}

-- the character stands from the row's first to its last
abbrev pub is_in_row : ℕ → ℕ × ℕ → Bool
is_in_row c row = nat_le row.0 c && nat_le c row.1

-- a row of the table has the character
abbrev pub has_char : List (ℕ × ℕ) → ℕ → Bool
has_char rows c = list_any (is_in_row c) rows

-- each row has a character, and begins behind the last of the row before, the first row at `low`
-- or behind it
abbrev pub rows_rise : ℕ → List (ℕ × ℕ) → Bool
rows_rise low [] = true
rows_rise low (row ∷ rows) = nat_le low row.0 && nat_le row.0 row.1 && rows_rise (row.1 + 1) rows

-- rows in order and apart
abbrev pub are_apart : List (ℕ × ℕ) → Bool
are_apart rows = rows_rise 0 rows

-- the place of the first row with that name
abbrev pub first_named : List ℕ → List (List ℕ) → Option ℕ
first_named name names = position (λ n. bytes_eq n name) names

-- the bytes of each name
abbrev pub texts : List (Bor (List ℕ)) → List (List ℕ)
texts names = map (λ n. n.now) names
