-- Edits of which those at the front have lines that rise.
use Rattle.std.proofs.Common.{◌≡◌, ℕ, suc, ◌+◌, ◌<◌, ◌≤◌, Bool, false, ◌||◌, List, [], ◌∷◌, ◌++◌, length, take, drop, sym, ap, subst, ◌∙◌, ⊎_elim, arith}
use Rattle.std.specs.Cmp.Lexicographic.{slice_cmp}
use Rattle.std.specs.List.Sorted.{IsPermutation, IsSorted, IsStrictlySortedBy}
use Rattle.std.specs.Ordering.{eq_by_cmp, nat_cmp, ordering_then}
use Rattle.std.specs.declared.cmp.Ordering.{Ordering}
use Rattle.std.specs.declared.cmp.Ordering.TheVariants.{Less}
use Rattle.std.proofs.lemmas.Bool.{cases_lt}
use Rattle.std.proofs.lemmas.List.{drop_all, drop_more, get_or-take, length-take-le, take-append-drop}
use Rattle.std.proofs.lemmas.List.Folds.{list_any-append}
use Rattle.std.proofs.lemmas.List.Sorted.{list_any-IsPermutation}
use Rattle.line_log.specs.Edits.{made}
use Rattle.line_log.specs.Sorting.{FrontRises, edits_at, first_cmp, front_rows, keep, line_at, merged, numbered, numbered_cmp}
use Rattle.line_log.proofs.Keeping.{made_keep, rows_rise}
use Rattle.line_log.proofs.Merging.{has_merge, rising_merge}
use Rattle.line_log.proofs.Rows.{below_all, made_sorted, rising_rows, row_total}
use Rattle.line_log.proofs.Sets.{has}

-- ---- rows of lines that rise

numbered_rise : (n : ℕ) (es : List (Bool × List ℕ)) → ((k : ℕ) → k + 1 < length es → slice_cmp nat_cmp (line_at es k) (line_at es (k + 1)) ≡ Less) → IsStrictlySortedBy numbered_cmp (numbered n es)
unfolding IsStrictlySortedBy
numbered_rise n [] h = tt
numbered_rise n (e ∷ []) h = (tt, tt)
numbered_rise n (e ∷ f ∷ es) h =
    let next : (k : ℕ) → suc k + 1 ≡ suc (k + 1) = λ k. omega arith in
    let rest : IsStrictlySortedBy numbered_cmp (numbered (n + 1) (f ∷ es)) = numbered_rise (n + 1) (f ∷ es) (λ k below.
    subst (λ (m : ℕ). slice_cmp nat_cmp (line_at (f ∷ es) k) (line_at (e ∷ f ∷ es) m) ≡ Less) (next k) (h (suc k) (omega arith))) in
    let less : numbered_cmp (e.1, n) (f.1, n + 1) ≡ Less = ap (λ (r : Ordering). ordering_then r (nat_cmp n (n + 1))) (h 0 (omega arith)) in
    (below_all row_total (e.1, n) (f.1, n + 1) (numbered (n + 1 + 1) es) less rest.0, rest)

module _ (es : List (Bool × List ℕ)) (front : ℕ) (within : front ≤ length es) where
  size : length (take front es) ≡ front
  size = length-take-le front es within

  in_front : (k : ℕ) → k < front → line_at (take front es) k ≡ line_at es k
  in_front k h = ap (λ (e : Bool × List ℕ). e.1) (get_or-take front es k (false, []) h)

  -- ---- one row after another

  pub no_more : (n : ℕ) → front ≤ n → front_rows es front n ≡ []
  no_more n h = ap (numbered n) (drop_all n (take front es) (omega (arith, size)))

  pub one_more : (n : ℕ) → n < front → front_rows es front n ≡ (line_at es n, n) ∷ front_rows es front (n + 1)
  one_more n h = ap (numbered n) (drop_more (take front es) n (false, []) (omega (arith, size))) ∙ ap (λ (l : List ℕ). (l, n) ∷ front_rows es front (n + 1)) (in_front n h)

  module _ (rise : FrontRises es front) where
    rising_front : IsStrictlySortedBy numbered_cmp (front_rows es front 0)
    rising_front = numbered_rise 0 (take front es) (λ k below.
        let one = in_front k (omega (arith, size)) in
        let two = in_front (k + 1) (omega (arith, size)) in
        rw (one, two) (rise k (omega (arith, size))))

    -- a row of the front comes before the next one
    pub rises_on : (n : ℕ) → first_cmp ((line_at es n, n) ∷ []) (front_rows es front (n + 1)) ≡ Less
    rises_on n = ⊎_elim (λ h. ap (first_cmp ((line_at es n, n) ∷ [])) (one_more (n + 1) h) ∙ rise n h) (λ h. ap (first_cmp ((line_at es n, n) ∷ [])) (no_more (n + 1) h)) (cases_lt (n + 1) front)

-- ---- all rows

numbered_append : (n : ℕ) (es fs : List (Bool × List ℕ)) → numbered n (es ++ fs) ≡ numbered n es ++ numbered (n + length es) fs
numbered_append n [] fs = ap (λ (m : ℕ). numbered m fs) (omega arith)
numbered_append n (e ∷ es) fs =
    let next : n + 1 + length es ≡ n + suc (length es) = omega arith in
    ap (λ (l : List (List ℕ × ℕ)). (e.1, n) ∷ l) (numbered_append (n + 1) es fs ∙ ap (λ (m : ℕ). numbered (n + 1) es ++ numbered m fs) next)

-- the rows of the front and the sorted rows of the other edits, merged, keep what the edits make
pub made_merged : (es : List (Bool × List ℕ)) (front : ℕ) (rows : List (List ℕ × ℕ)) → front ≤ length es → FrontRises es front → IsPermutation (numbered front (drop front es)) rows → IsSorted numbered_cmp rows
    → keep (edits_at es (merged es front 0 rows)) ≡ made es
made_merged es front rows within rise moved sorted =
    let up = rising_merge row_total (front_rows es front 0) rows (rising_front es front within rise) (rising_rows front (drop front es) rows moved sorted) in
    sym (made_keep (edits_at es (merged es front 0 rows)) (rows_rise es (merged es front 0 rows) up)) ∙ made_sorted es (merged es front 0 rows) up those
  where
    those : (r : List ℕ × ℕ) → has row_total r (numbered 0 es) ≡ has row_total r (merged es front 0 rows)
    those r =
        let second : 0 + length (take front es) ≡ front = omega (arith, size es front within) in
        ap (λ (l : List (Bool × List ℕ)). has row_total r (numbered 0 l)) (sym (take-append-drop front es)) ∙ ap (has row_total r) (numbered_append 0 (take front es) (drop front es))
        ∙ list_any-append (eq_by_cmp numbered_cmp r) (numbered 0 (take front es)) (numbered (0 + length (take front es)) (drop front es))
        ∙ ap (λ (n : ℕ). has row_total r (numbered 0 (take front es)) || has row_total r (numbered n (drop front es))) second
        ∙ ap (λ (b : Bool). has row_total r (numbered 0 (take front es)) || b) (list_any-IsPermutation (eq_by_cmp numbered_cmp r) (numbered front (drop front es)) rows moved)
        ∙ sym (has_merge row_total r (front_rows es front 0) rows)
