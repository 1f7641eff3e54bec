-- Lines of edits, sorted with the number of their edit.
use Rattle.std.specs.Prelude.{◌≡◌, ℕ, ◌+◌, ◌-◌, ◌<◌, ◌≤◌, Bool, true, false, cond, not, ◌&&◌}
use Rattle.std.specs.Prelude.{List, [], ◌∷◌, length, map, take, drop, slice_index_or}
use Rattle.std.specs.List.{AllByRecursion}
use Rattle.std.specs.Cmp.Lexicographic.{slice_cmp}
use Rattle.std.specs.Ordering.{eq_by_cmp, nat_cmp, ordering_then}
use Rattle.std.specs.Set.{sorted_merge}
use Rattle.std.specs.declared.cmp.Ordering.{Ordering}
use Rattle.std.specs.declared.cmp.Ordering.TheVariants.{Less, Greater}
use Rattle.std.specs.Borrow.{Bor}
use Rattle.line_order.specs.declared.presort.Keyed.{Keyed}

-- the line of each edit, with its number
abbrev pub numbered : ℕ → List (Bool × List ℕ) → List (List ℕ × ℕ)
numbered n [] = []
numbered n (e ∷ es) = (e.1, n) ∷ numbered (n + 1) es

-- a line with a number, as it is held
abbrev pub NumberedLine : Type 0
NumberedLine = Keyed (Bor (List ℕ) × ℕ)

-- rows as lines with numbers
abbrev pub lines_numbered : List NumberedLine → List (List ℕ × ℕ)
lines_numbered rows = map (λ r. (r.line.0.now, r.line.1)) rows

-- whether the edit of a number adds its line
abbrev pub adds_at : List (Bool × List ℕ) → ℕ → Bool
adds_at es n = (slice_index_or es n (false, [])).0

-- the line of the edit of a number
abbrev pub line_at : List (Bool × List ℕ) → ℕ → List ℕ
line_at es n = (slice_index_or es n (false, [])).1

-- a row has the line of the edit of its number
abbrev pub IsRow : List (Bool × List ℕ) → List ℕ × ℕ → Type 0
IsRow es row = (row.1 < length es) × (line_at es row.1 ≡ row.0)

-- the same, and its edit isn't among so many at the front
abbrev pub IsRowBehind : List (Bool × List ℕ) → ℕ → List ℕ × ℕ → Type 0
IsRowBehind es front row = IsRow es row × (front ≤ row.1)

-- the lines of the edits of these numbers
abbrev pub lines_at : List (Bool × List ℕ) → List ℕ → List (List ℕ)
lines_at es order = map (line_at es) order

-- all are numbers of edits, and these are their lines
abbrev pub HasLinesOf : List (Bool × List ℕ) → List ℕ → List (List ℕ) → Type 0
HasLinesOf es order lines = AllByRecursion (λ n. n < length es) order × (lines_at es order ≡ lines)

-- rows by their lines, those of one line by their numbers
abbrev pub numbered_cmp : List ℕ × ℕ → List ℕ × ℕ → Ordering
numbered_cmp x y = ordering_then (slice_cmp nat_cmp x.0 y.0) (nat_cmp x.1 y.1)

-- the line of an edit is behind that of the one before it, if there is one
abbrev pub LineRises : List (Bool × List ℕ) → ℕ → Type 0
LineRises es n = 0 < n → slice_cmp nat_cmp (line_at es (n - 1)) (line_at es n) ≡ Less

-- the lines of so many edits at the front rise
abbrev pub FrontRises : List (Bool × List ℕ) → ℕ → Type 0
FrontRises es front = (k : ℕ) → k + 1 < front
    → slice_cmp nat_cmp (line_at es k) (line_at es (k + 1)) ≡ Less

-- the rows of so many edits at the front, from a number on
abbrev pub front_rows : List (Bool × List ℕ) → ℕ → ℕ → List (List ℕ × ℕ)
front_rows es front n = numbered n (drop n (take front es))

-- the rows of the front from a number on and others, all in order where both are
abbrev pub merged : List (Bool × List ℕ) → ℕ → ℕ → List (List ℕ × ℕ) → List (List ℕ × ℕ)
merged es front n rows = sorted_merge numbered_cmp true (front_rows es front n) rows

-- how rows compare with others by the first line of each, where no line is behind all
abbrev pub first_cmp : List (List ℕ × ℕ) → List (List ℕ × ℕ) → Ordering
first_cmp [] ys = Greater
first_cmp (x ∷ xs) [] = Less
first_cmp (x ∷ xs) (y ∷ ys) = slice_cmp nat_cmp x.0 y.0

-- the edits that stand at the numbers of rows
abbrev pub edits_at : List (Bool × List ℕ) → List (List ℕ × ℕ) → List (Bool × List ℕ)
edits_at es rows = map (λ r. (adds_at es r.1, r.0)) rows

-- whether a line isn't that of the next edit
abbrev pub ends : List ℕ → List (Bool × List ℕ) → Bool
ends line [] = true
ends line (e ∷ es) = not (eq_by_cmp (slice_cmp nat_cmp) line e.1)

-- whether the edit of a row is the last of its line, and adds it
abbrev pub stands_at : List (Bool × List ℕ) → NumberedLine → List NumberedLine → Bool
stands_at es row behind =
    adds_at es row.line.1 && ends row.line.0.now (edits_at es (lines_numbered behind))

-- of edits that are sorted by their lines, the lines whose last edit adds them
abbrev pub keep : List (Bool × List ℕ) → List (List ℕ)
keep [] = []
keep (e ∷ es) = cond (e.0 && ends e.1 es) (e.1 ∷ keep es) (keep es)

-- edits that add these lines
abbrev pub additions : List (List ℕ) → List (Bool × List ℕ)
additions lines = map (λ l. (true, l)) lines
