-- Changes in the order of their rows.
use Rattle.std.specs.Prelude.{◌≡◌, ℕ, Bool, true, List, [], ◌∷◌, ◌++◌, map}
use Rattle.std.specs.Ordering.{nat_cmp}
use Rattle.std.specs.declared.cmp.Ordering.{Ordering}
use Rattle.std.specs.Cmp.Lexicographic.{slice_cmp}
use Rattle.line_log.specs.Edits.{made}
use Rattle.rdf_terms.specs.declared.change.Change.{Change}
use Rattle.patch_rows.specs.declared.row.Row.TheVariants as row
use Rattle.patch_rows.specs.Printing.{row_text}

-- the canonical row of a change, with its line feed
abbrev pub change_row : Change → List ℕ
change_row change = row_text (row.Change change) ++ 10 ∷ []

-- the order of the bytes of their rows
abbrev pub change_cmp : Change → Change → Ordering
change_cmp a b = slice_cmp nat_cmp (change_row a) (change_row b)

-- edits of lines that add the rows of changes
abbrev pub rows_added : List Change → List (Bool × List ℕ)
rows_added changes = map (λ change. (true, change_row change)) changes

-- the rows of changes in the order of their bytes, each once
abbrev pub rows_in_order : List Change → List (List ℕ)
rows_in_order changes = made (rows_added changes)

-- a change stands behind its row
abbrev pub HasItsRow : List ℕ × Change → Type 0
HasItsRow pair = pair.0 ≡ change_row pair.1
