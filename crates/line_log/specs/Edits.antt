-- Lines in the order of their bytes, each once, and what edits make of them.
use Rattle.std.specs.Prelude.{ℕ, Bool, true, false, List, [], ◌∷◌, length, sum_by}
use Rattle.std.specs.Ordering.{nat_cmp}
use Rattle.std.specs.Cmp.Lexicographic.{slice_cmp}
use Rattle.std.specs.BTreeMap.{is_at}
use Rattle.std.specs.BTreeSet.{insert_key}
use Rattle.std.specs.Set.{remove_key}

-- lines in order with one more, or without one
abbrev pub edit_lines : Bool × List ℕ → List (List ℕ) → List (List ℕ)
edit_lines (true, text) lines = insert_key (slice_cmp nat_cmp) lines text
edit_lines (false, text) lines = remove_key (is_at (slice_cmp nat_cmp text)) lines

-- the lines that edits, one after another, make of others
abbrev pub edited : List (Bool × List ℕ) → List (List ℕ) → List (List ℕ)
edited [] lines = lines
edited (e ∷ es) lines = edited es (edit_lines e lines)

-- the lines that edits, one after another, make of none, in the order of their bytes
abbrev pub made : List (Bool × List ℕ) → List (List ℕ)
made edits = edited edits []

-- how many bytes the lines of edits have together
abbrev pub bytes_of : List (Bool × List ℕ) → ℕ
bytes_of edits = sum_by (λ e. length e.1) edits
