-- The lines that stay of merged rows, one row after another.
use Rattle.std.proofs.Common.{◌≡◌, ℕ, suc, ◌+◌, ◌-◌, ◌<◌, ◌≤◌, Bool, true, false, cond, not, ◌&&◌, List, [], ◌∷◌, ◌++◌, length, take, drop, get_or, refl, sym, ap, subst, ◌∙◌, append_assoc, ⊎_elim, arith}
use Rattle.std.specs.Cmp.Lexicographic.{slice_cmp, nat_list_cmp_total}
use Rattle.std.specs.List.{AllByRecursion}
use Rattle.std.specs.Ordering.{is_eq, match_ordering, nat_cmp, ordering_reverse, ordering_then}
use Rattle.std.specs.Set.{sorted_merge}
use Rattle.std.specs.declared.cmp.Ordering.{Ordering}
use Rattle.std.specs.declared.cmp.Ordering.TheVariants.{Less, Equal, Greater}
use Rattle.std.proofs.Math.Bool.{and-true}
use Rattle.std.proofs.Math.Seq.{take-length}
use Rattle.std.proofs.lemmas.Bool.{cases_lt}
use Rattle.std.proofs.lemmas.List.{map-append}
use Rattle.std.proofs.lemmas.Map.Lookups.{exact_bytes}
use Rattle.line_log.specs.Sorting.{FrontRises, IsRowBehind, NumberedLine, adds_at, edits_at, ends, first_cmp, front_rows, keep, line_at, lines_at, lines_numbered, merged, numbered_cmp, stands_at}
use Rattle.line_log.proofs.Fronts.{no_more, one_more, rises_on}
use Rattle.line_log.proofs.Keeping.{less_on}
use Rattle.line_log.proofs.Merging.{merge_none}
use Rattle.line_log.proofs.Rows.{nat_less, row_total}

abbrev Rows : Type 0
Rows = List (List ℕ × ℕ)

abbrev cmp : List ℕ → List ℕ → Ordering
cmp = slice_cmp nat_cmp

abbrev merge : Rows → Rows → Rows
merge = sorted_merge numbered_cmp true

-- ---- the first of merged rows

merge_less : (x : List ℕ × ℕ) (xs ys : Rows) → first_cmp (x ∷ xs) ys ≡ Less → merge (x ∷ xs) ys ≡ x ∷ merge xs ys
merge_less x xs [] e = ap (λ (l : Rows). x ∷ l) (sym (merge_none row_total xs))
merge_less x xs (y ∷ ys) e = ap (λ (r : Ordering). match_ordering (ordering_then r (nat_cmp x.1 y.1)) (x ∷ merge xs (y ∷ ys)) (x ∷ merge xs ys) (y ∷ merge (x ∷ xs) ys)) e

merge_equal : (x y : List ℕ × ℕ) (xs ys : Rows) → cmp x.0 y.0 ≡ Equal → x.1 < y.1 → merge (x ∷ xs) (y ∷ ys) ≡ x ∷ merge xs (y ∷ ys)
merge_equal x y xs ys e h =
    ap (λ (r : Ordering). match_ordering (ordering_then r (nat_cmp x.1 y.1)) (x ∷ merge xs (y ∷ ys)) (x ∷ merge xs ys) (y ∷ merge (x ∷ xs) ys)) e
    ∙ ap (λ (r : Ordering). match_ordering r (x ∷ merge xs (y ∷ ys)) (x ∷ merge xs ys) (y ∷ merge (x ∷ xs) ys)) (nat_less x.1 y.1 h)

merge_greater : (y : List ℕ × ℕ) (xs ys : Rows) → first_cmp xs (y ∷ ys) ≡ Greater → merge xs (y ∷ ys) ≡ y ∷ merge xs ys
merge_greater y [] ys e = refl
merge_greater y (x ∷ xs) ys e = ap (λ (r : Ordering). match_ordering (ordering_then r (nat_cmp x.1 y.1)) (x ∷ merge xs (y ∷ ys)) (x ∷ merge xs ys) (y ∷ merge (x ∷ xs) ys)) e

module _ (es : List (Bool × List ℕ)) where
  -- ---- whether a line is that of the first of merged rows

  unlike : (x : List ℕ × ℕ) (xs : Rows) → first_cmp (x ∷ []) xs ≡ Less → ends x.0 (edits_at es xs) ≡ true
  unlike x [] e = refl
  unlike x (y ∷ ys) e = ap (λ (r : Ordering). not (is_eq r)) e

  ends_both : (l : List ℕ) (xs ys : Rows) → ends l (edits_at es xs) ≡ true → ends l (edits_at es ys) ≡ true → ends l (edits_at es (merge xs ys)) ≡ true
  ends_both l [] ys a b = b
  ends_both l (x ∷ xs) [] a b = a
  ends_both l (x ∷ xs) (y ∷ ys) a b = by (numbered_cmp x y)
    where
      by : (r : Ordering) → ends l (edits_at es (match_ordering r (x ∷ merge xs (y ∷ ys)) (x ∷ merge xs ys) (y ∷ merge (x ∷ xs) ys))) ≡ true
      by Less = a
      by Equal = a
      by Greater = b

  -- a row that comes before another one of its line is below what comes before neither
  above : (x y : List ℕ × ℕ) (xs ys : Rows) → cmp x.0 y.0 ≡ Equal → first_cmp (x ∷ []) xs ≡ Less → first_cmp xs (y ∷ ys) ≡ Greater
  above x y [] ys e h = refl
  above x y (z ∷ zs) ys e h =
      let less : cmp y.0 z.0 ≡ Less = subst (λ (l : List ℕ). cmp l z.0 ≡ Less) (exact_bytes x.0 y.0 e) h in
      nat_list_cmp_total.antisymm z.0 y.0 ∙ ap ordering_reverse less

  ends_equal : (x y : List ℕ × ℕ) (xs ys : Rows) → cmp x.0 y.0 ≡ Equal → first_cmp (x ∷ []) xs ≡ Less → ends x.0 (edits_at es (merge xs (y ∷ ys))) ≡ false
  ends_equal x y xs ys e h = ap (λ (l : Rows). ends x.0 (edits_at es l)) (merge_greater y xs ys (above x y xs ys e h)) ∙ ap (λ (r : Ordering). not (is_eq r)) e

  not_above : (r s : Ordering) → ordering_then r s ≡ Less → r ≡ Greater → ⊥
  not_above Less s e g = absurd cc
  not_above Equal s e g = absurd cc
  not_above Greater s e g = absurd cc

  not_above_equal : (r s : Ordering) → ordering_then r s ≡ Equal → r ≡ Greater → ⊥
  not_above_equal Less s e g = absurd cc
  not_above_equal Equal s e g = absurd cc
  not_above_equal Greater s e g = absurd cc

  ends_behind : (y : List ℕ × ℕ) (xs ys : Rows) → first_cmp xs (y ∷ []) ≡ Greater → ends y.0 (edits_at es (merge xs ys)) ≡ ends y.0 (edits_at es ys)
  ends_behind y [] ys e = refl
  ends_behind y (x ∷ xs) [] e = ap (λ (r : Ordering). not (is_eq r)) (nat_list_cmp_total.antisymm y.0 x.0 ∙ ap ordering_reverse e)
  ends_behind y (x ∷ xs) (z ∷ zs) e = by (numbered_cmp x z) refl
    where
      less : cmp y.0 x.0 ≡ Less
      less = nat_list_cmp_total.antisymm y.0 x.0 ∙ ap ordering_reverse e

      apart : (cmp x.0 z.0 ≡ Greater → ⊥) → ends y.0 (edits_at es (x ∷ xs)) ≡ ends y.0 (edits_at es (z ∷ zs))
      apart h = ap (λ (r : Ordering). not (is_eq r)) (less ∙ sym (less_on y.0 x.0 z.0 less h))

      by : (r : Ordering) → numbered_cmp x z ≡ r → ends y.0 (edits_at es (match_ordering r (x ∷ merge xs (z ∷ zs)) (x ∷ merge xs zs) (z ∷ merge (x ∷ xs) zs))) ≡ ends y.0 (edits_at es (z ∷ zs))
      by Less g = apart (not_above (cmp x.0 z.0) (nat_cmp x.1 z.1) g)
      by Equal g = apart (not_above_equal (cmp x.0 z.0) (nat_cmp x.1 z.1) g)
      by Greater g = refl

  -- ---- what stays

  abbrev kept : Rows → Rows → List (List ℕ)
  kept xs ys = keep (edits_at es (merge xs ys))

  first_alone : (x : List ℕ × ℕ) (xs ys : Rows) → first_cmp (x ∷ xs) ys ≡ Less → first_cmp (x ∷ []) ys ≡ Less
  first_alone x xs [] e = refl
  first_alone x xs (y ∷ ys) e = e

  kept_less : (x : List ℕ × ℕ) (xs ys : Rows) → first_cmp (x ∷ xs) ys ≡ Less → first_cmp (x ∷ []) xs ≡ Less → kept (x ∷ xs) ys ≡ cond (adds_at es x.1) (x.0 ∷ kept xs ys) (kept xs ys)
  kept_less x xs ys e h =
      let last = ends_both x.0 xs ys (unlike x xs h) (unlike x ys (first_alone x xs ys e)) in
      ap (λ (l : Rows). keep (edits_at es l)) (merge_less x xs ys e) ∙ ap (λ (b : Bool). cond (adds_at es x.1 && b) (x.0 ∷ kept xs ys) (kept xs ys)) last
      ∙ ap (λ (b : Bool). cond b (x.0 ∷ kept xs ys) (kept xs ys)) (and-true (adds_at es x.1))

  and_none : (b : Bool) → (b && false) ≡ false
  and_none true = refl
  and_none false = refl

  kept_equal : (x y : List ℕ × ℕ) (xs ys : Rows) → cmp x.0 y.0 ≡ Equal → x.1 < y.1 → first_cmp (x ∷ []) xs ≡ Less → kept (x ∷ xs) (y ∷ ys) ≡ kept xs (y ∷ ys)
  kept_equal x y xs ys e below h =
      ap (λ (l : Rows). keep (edits_at es l)) (merge_equal x y xs ys e below)
      ∙ ap (λ (b : Bool). cond (adds_at es x.1 && b) (x.0 ∷ kept xs (y ∷ ys)) (kept xs (y ∷ ys))) (ends_equal x y xs ys e h)
      ∙ ap (λ (b : Bool). cond b (x.0 ∷ kept xs (y ∷ ys)) (kept xs (y ∷ ys))) (and_none (adds_at es x.1))

  second_alone : (y : List ℕ × ℕ) (xs ys : Rows) → first_cmp xs (y ∷ ys) ≡ Greater → first_cmp xs (y ∷ []) ≡ Greater
  second_alone y [] ys e = refl
  second_alone y (x ∷ xs) ys e = e

  kept_greater : (y : List ℕ × ℕ) (xs ys : Rows) → first_cmp xs (y ∷ ys) ≡ Greater → kept xs (y ∷ ys) ≡ cond (adds_at es y.1 && ends y.0 (edits_at es ys)) (y.0 ∷ kept xs ys) (kept xs ys)
  kept_greater y xs ys e =
      ap (λ (l : Rows). keep (edits_at es l)) (merge_greater y xs ys e)
      ∙ ap (λ (b : Bool). cond (adds_at es y.1 && b) (y.0 ∷ kept xs ys) (kept xs ys)) (ends_behind y xs ys (second_alone y xs ys e))

-- ---- the rows of a front, and others

module _ (es : List (Bool × List ℕ)) (front : ℕ) (within : front ≤ length es) where
  pub before_none : (n : ℕ) (rows : List NumberedLine) → n < front → length rows < 1 → Less ≡ first_cmp (front_rows es front n) (lines_numbered rows)
  before_none n [] h few = sym (ap (λ (l : Rows). first_cmp l []) (one_more es front within n h))
  before_none n (row ∷ rows) h few = absurd (omega arith)

  -- a front that doesn't come behind others has a row
  pub inside : (n : ℕ) (ys : Rows) → (first_cmp (front_rows es front n) ys ≡ Greater → ⊥) → n < front
  inside n ys h = ⊎_elim (λ below. below) (λ behind. absurd (h (ap (λ (l : Rows). first_cmp l ys) (no_more es front within n behind)))) (cases_lt n front)

  -- what stays of the front from a number on, and of other rows
  abbrev pub left : ℕ → Rows → List (List ℕ)
  left n ys = keep (edits_at es (merged es front n ys))

  module _ (rise : FrontRises es front) where
    pub left_less : (n : ℕ) (ys : Rows) → first_cmp (front_rows es front n) ys ≡ Less → left n ys ≡ cond (adds_at es n) (line_at es n ∷ left (n + 1) ys) (left (n + 1) ys)
    left_less n ys e =
        let one = one_more es front within n (inside n ys (λ g. absurd (cc (e, g)))) in
        let first : first_cmp ((line_at es n, n) ∷ front_rows es front (n + 1)) ys ≡ Less = subst (λ (l : Rows). first_cmp l ys ≡ Less) one e in
        ap (λ (l : Rows). kept es l ys) one ∙ kept_less es (line_at es n, n) (front_rows es front (n + 1)) ys first (rises_on es front within rise n)

    pub left_equal : (n : ℕ) (ys : Rows) → AllByRecursion (IsRowBehind es front) ys → first_cmp (front_rows es front n) ys ≡ Equal → left n ys ≡ left (n + 1) ys
    left_equal n ys behind e = by ys behind first
      where
        below : n < front
        below = inside n ys (λ g. absurd (cc (e, g)))

        one : front_rows es front n ≡ (line_at es n, n) ∷ front_rows es front (n + 1)
        one = one_more es front within n below

        first : first_cmp ((line_at es n, n) ∷ front_rows es front (n + 1)) ys ≡ Equal
        first = subst (λ (l : Rows). first_cmp l ys ≡ Equal) one e

        by : (zs : Rows) → AllByRecursion (IsRowBehind es front) zs → first_cmp ((line_at es n, n) ∷ front_rows es front (n + 1)) zs ≡ Equal → left n zs ≡ left (n + 1) zs
        by [] a f = absurd cc
        by (y ∷ zs) a f = ap (λ (l : Rows). kept es l (y ∷ zs)) one ∙ kept_equal es (line_at es n, n) y (front_rows es front (n + 1)) zs f (omega (arith, below, a.0.1)) (rises_on es front within rise n)

  pub left_greater : (n : ℕ) (y : List ℕ × ℕ) (ys : Rows) → first_cmp (front_rows es front n) (y ∷ ys) ≡ Greater → left n (y ∷ ys) ≡ cond (adds_at es y.1 && ends y.0 (edits_at es ys)) (y.0 ∷ left n ys) (left n ys)
  left_greater n y ys e = kept_greater es y (front_rows es front n) ys e

  pub left_none : (n : ℕ) → first_cmp (front_rows es front n) [] ≡ Greater → left n [] ≡ []
  left_none n e = by (front_rows es front n) e
    where
      by : (xs : Rows) → first_cmp xs [] ≡ Greater → kept es xs [] ≡ []
      by [] f = refl
      by (x ∷ xs) f = absurd cc

-- ---- numbers of lines that stay

all_one : (P : ℕ → Type 0) (old : List ℕ) (n : ℕ) → AllByRecursion P old → P n → AllByRecursion P (old ++ n ∷ [])
all_one P [] n a p = (p, tt)
all_one P (m ∷ old) n a p = (a.0, all_one P old n a.1 p)

pub all_put : (P : ℕ → Type 0) (old new : List ℕ) (n : ℕ) (b : Bool) → new ≡ cond b (old ++ n ∷ []) old → P n → AllByRecursion P old → AllByRecursion P new
all_put P old new n b e p a = subst (AllByRecursion P) (sym e) (by b)
  where
    by : (t : Bool) → AllByRecursion P (cond t (old ++ n ∷ []) old)
    by true = all_one P old n a p
    by false = a

-- the line of a number that is put behind others comes behind theirs
pub put : (es : List (Bool × List ℕ)) (old new : List ℕ) (n : ℕ) (b : Bool) (rest more whole : List (List ℕ)) → new ≡ cond b (old ++ n ∷ []) old → rest ≡ cond b (line_at es n ∷ more) more
    → lines_at es old ++ rest ≡ whole → lines_at es new ++ more ≡ whole
put es old new n b rest more whole e f h = by b e f
  where
    by : (t : Bool) → new ≡ cond t (old ++ n ∷ []) old → rest ≡ cond t (line_at es n ∷ more) more → lines_at es new ++ more ≡ whole
    by true e f =
        ap (λ (l : List ℕ). lines_at es l ++ more) e ∙ ap (λ (l : List (List ℕ)). l ++ more) (map-append (line_at es) old (n ∷ [])) ∙ append_assoc (lines_at es old) (line_at es n ∷ []) more
        ∙ ap (λ (l : List (List ℕ)). lines_at es old ++ l) (sym f) ∙ h
    by false e f = ap (λ (l : List ℕ). lines_at es l ++ more) e ∙ ap (λ (l : List (List ℕ)). lines_at es old ++ l) (sym f) ∙ h

-- a list is its first element and what is behind
pub first_and_rest : (rows : List NumberedLine) (d : NumberedLine) → 1 ≤ length rows → rows ≡ get_or rows 0 d ∷ take (length rows - 1) (drop 1 rows)
first_and_rest [] d h = absurd (omega arith)
first_and_rest (row ∷ rows) d h =
    let all : suc (length rows) - 1 ≡ length rows = omega arith in
    ap (λ (l : List NumberedLine). row ∷ l) (sym (ap (λ (n : ℕ). take n rows) all ∙ take-length rows))

module _ (es : List (Bool × List ℕ)) (front n : ℕ) (rest : List NumberedLine) (row : NumberedLine) (behind : List NumberedLine) (within : front ≤ length es) (is : rest ≡ row ∷ behind) (rows : AllByRecursion (IsRowBehind es front) (lines_numbered rest)) where
  pub row_first : IsRowBehind es front (row.line.0.now, row.line.1)
  row_first = (subst (λ (l : List NumberedLine). AllByRecursion (IsRowBehind es front) (lines_numbered l)) is rows).0

  pub rows_rest : AllByRecursion (IsRowBehind es front) (lines_numbered behind)
  rows_rest = (subst (λ (l : List NumberedLine). AllByRecursion (IsRowBehind es front) (lines_numbered l)) is rows).1

  pub left_row : (b : Bool) → Greater ≡ first_cmp (front_rows es front n) (lines_numbered rest) → b ≡ stands_at es row behind
      → left es front within n (lines_numbered rest) ≡ cond b (line_at es row.line.1 ∷ left es front within n (lines_numbered behind)) (left es front within n (lines_numbered behind))
  left_row b g e =
      let y : List ℕ × ℕ = (row.line.0.now, row.line.1) in
      let ys = lines_numbered behind in
      ap (λ (l : List NumberedLine). left es front within n (lines_numbered l)) is
      ∙ left_greater es front within n y ys (subst (λ (l : List NumberedLine). first_cmp (front_rows es front n) (lines_numbered l) ≡ Greater) is (sym g))
      ∙ ap (λ (t : Bool). cond t (y.0 ∷ left es front within n ys) (left es front within n ys)) (sym e)
      ∙ ap (λ (l : List ℕ). cond b (l ∷ left es front within n ys) (left es front within n ys)) (sym row_first.0.1)
