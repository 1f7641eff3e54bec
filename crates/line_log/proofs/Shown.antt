-- Rows as lines with numbers: those of all edits, and what a sort leaves of them.
use Rattle.std.proofs.Common.{◌≡◌, ℕ, ◌<◌, ◌≤◌, ◌+◌, Bool, false, List, [], ◌∷◌, ◌++◌, length, take, drop, map, refl, sym, ap, subst, ◌∙◌, append-nil, append_assoc, length-append, arith}
use Rattle.std.specs.Borrow.{Bor}
use Rattle.std.specs.List.{All, AllByRecursion}
use Rattle.std.specs.List.Sorted.{IsPermutation, IsSorted}
use Rattle.std.proofs.Math.Seq.{get_or-append_seam}
use Rattle.std.proofs.lemmas.List.{drop_all, drop_more, get_or-map, length-map, length-take-le, map-append, map-id, take-append-drop}
use Rattle.std.proofs.lemmas.List.Elements.{All-from_recursion, recursion_from_All}
use Rattle.std.proofs.lemmas.List.Sorted.{IsPermutation-map}
use Rattle.std.proofs.lemmas.Map.Views.{All-map-IsPermutation}
use Rattle.line_order.specs.Moves.{AreMoved, lines_of}
use Rattle.line_log.specs.Sorting.{IsRow, IsRowBehind, NumberedLine, line_at, numbered, lines_numbered, numbered_cmp}

-- ---- rows that were sorted

abbrev plain : Bor (List ℕ) × ℕ → List ℕ × ℕ
plain p = (p.0.now, p.1)

shown-plain : (rows : List NumberedLine) → map plain (lines_of rows) ≡ lines_numbered rows
shown-plain [] = refl
shown-plain (row ∷ rows) = ap (λ (l : List (List ℕ × ℕ)). plain row.line ∷ l) (shown-plain rows)

pub shown_moved : (xs ys : List NumberedLine) → AreMoved xs ys → IsPermutation (lines_numbered xs) (lines_numbered ys)
shown_moved xs ys h =
    subst (IsPermutation (lines_numbered xs)) (shown-plain ys)
    (subst (λ (l : List (List ℕ × ℕ)). IsPermutation l (map plain (lines_of ys))) (shown-plain xs) (IsPermutation-map plain (lines_of xs) (lines_of ys) h))

pub shown_sorted : (rows : List NumberedLine) → IsSorted (λ x y. numbered_cmp (plain x) (plain y)) (lines_of rows) → IsSorted numbered_cmp (lines_numbered rows)
shown_sorted rows s = subst (IsSorted numbered_cmp) (shown-plain rows) (λ k d low below.
    let any : Bor (List ℕ) × ℕ = (record { ref_ptr = (0, 0); now = d.0 }, d.1) in
    let lines = lines_of rows in
    let inside = subst (λ (n : ℕ). k + 1 < n) (length-map lines plain) below in
    let one = get_or-map plain lines k any d (omega arith) in
    let next = get_or-map plain lines (k + 1) any d inside in
    rw (one, next) (s k any low inside))

-- ---- the rows of edits

rows_behind : (before es : List (Bool × List ℕ)) → AllByRecursion (IsRow (before ++ es)) (numbered (length before) es)
rows_behind before [] = tt
rows_behind before (e ∷ es) =
    let first : line_at (before ++ e ∷ es) (length before) ≡ e.1 = ap (λ (f : Bool × List ℕ). f.1) (get_or-append_seam before e es (false, [])) in
    let within : length before < length (before ++ e ∷ es) = omega (arith, length-append before (e ∷ es)) in (
      (within, first),
      subst (λ (n : ℕ). AllByRecursion (IsRow (before ++ e ∷ es)) (numbered n es)) (length-append before (e ∷ []))
          (subst (λ (all : List (Bool × List ℕ)). AllByRecursion (IsRow all) (numbered (length (before ++ e ∷ [])) es)) (append_assoc before (e ∷ []) es) (rows_behind (before ++ e ∷ []) es)),
    )

numbers_from : (n m : ℕ) (es : List (Bool × List ℕ)) → n ≤ m → AllByRecursion (λ r. n ≤ r.1) (numbered m es)
numbers_from n m [] h = tt
numbers_from n m (e ∷ es) h = (h, numbers_from n (m + 1) es (omega arith))

both : {X : Type 0} (P Q : X → Type 0) (xs : List X) → AllByRecursion P xs → AllByRecursion Q xs → AllByRecursion (λ x. P x × Q x) xs
both P Q [] a b = tt
both P Q (x ∷ xs) a b = ((a.0, b.0), both P Q xs a.1 b.1)

rows_from : (es : List (Bool × List ℕ)) (front : ℕ) → front ≤ length es → AllByRecursion (IsRowBehind es front) (numbered front (drop front es))
rows_from es front within =
    let lines : AllByRecursion (IsRow es) (numbered front (drop front es)) =
    subst (λ (n : ℕ). AllByRecursion (IsRow es) (numbered n (drop front es))) (length-take-le front es within)
    (subst (λ (all : List (Bool × List ℕ)). AllByRecursion (IsRow all) (numbered (length (take front es)) (drop front es))) (take-append-drop front es) (rows_behind (take front es) (drop front es))) in
    both (IsRow es) (λ r. front ≤ r.1) (numbered front (drop front es)) lines (numbers_from front front (drop front es) (omega arith))

-- rows that were moved have the lines of their edits
pub rows_are : (es : List (Bool × List ℕ)) (front : ℕ) (rows : List (List ℕ × ℕ)) → front ≤ length es → IsPermutation (numbered front (drop front es)) rows → AllByRecursion (IsRowBehind es front) rows
rows_are es front rows within moved =
    let P = IsRowBehind es front in
    let same : (l : List (List ℕ × ℕ)) → map (λ r. r) l ≡ l = λ l. map-id l in
    let old = numbered front (drop front es) in
    recursion_from_All P rows (subst (All P) (same rows) (All-map-IsPermutation (λ r. r) P old rows moved (subst (All P) (sym (same old)) (All-from_recursion P old (rows_from es front within)))))

-- the row of the next edit
next_row : (es : List (Bool × List ℕ)) (n : ℕ) (rows whole : List (List ℕ × ℕ)) (line : List ℕ) → n < length es → line ≡ line_at es n → rows ++ numbered n (drop n es) ≡ whole
    → (rows ++ (line, n) ∷ []) ++ numbered (n + 1) (drop (n + 1) es) ≡ whole
next_row es n rows whole line within is h =
    append_assoc rows ((line, n) ∷ []) _ ∙ ap (λ (l : List ℕ). rows ++ (l, n) ∷ numbered (n + 1) (drop (n + 1) es)) is
    ∙ ap (λ (l : List (Bool × List ℕ)). rows ++ numbered n l) (sym (drop_more es n (false, []) within)) ∙ h

pub more_rows : (es : List (Bool × List ℕ)) (n : ℕ) (rows more : List NumberedLine) (row : NumberedLine) (line : Bor (List ℕ)) (whole : List (List ℕ × ℕ)) → n < length es → more ≡ rows ++ row ∷ [] → row.line ≡ (line, n)
    → line.now ≡ line_at es n → lines_numbered rows ++ numbered n (drop n es) ≡ whole → lines_numbered more ++ numbered (n + 1) (drop (n + 1) es) ≡ whole
more_rows es n rows more row line whole within e is same h =
    let left = numbered (n + 1) (drop (n + 1) es) in
    ap (λ (l : List NumberedLine). lines_numbered l ++ left) e ∙ ap (λ (l : List (List ℕ × ℕ)). l ++ left) (map-append _ rows (row ∷ []))
    ∙ ap (λ (p : Bor (List ℕ) × ℕ). (lines_numbered rows ++ (p.0.now, p.1) ∷ []) ++ left) is ∙ next_row es n (lines_numbered rows) whole line.now within same h

pub all_rows : (es : List (Bool × List ℕ)) (n : ℕ) (rows whole : List (List ℕ × ℕ)) → length es ≤ n → rows ++ numbered n (drop n es) ≡ whole → rows ≡ whole
all_rows es n rows whole h all = sym (append-nil rows) ∙ ap (λ (l : List (Bool × List ℕ)). rows ++ numbered n l) (sym (drop_all n es h)) ∙ all
