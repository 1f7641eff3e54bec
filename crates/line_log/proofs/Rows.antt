-- Edits that are sorted by their lines, those of a line in their order, make the same lines.
use Rattle.std.proofs.Common.{◌≡◌, ℕ, suc, ◌<◌, ◌+◌, Bool, true, false, cond, ◌&&◌, List, [], ◌∷◌, ◌++◌, length, get_or, refl, sym, ap, subst, ◌∙◌, append_assoc, length-append, arith}
use Rattle.std.specs.Cmp.{IsTotalOrder, on_total, then_total, nat_cmp_total}
use Rattle.std.specs.Cmp.Lexicographic.{slice_cmp, nat_list_cmp_total}
use Rattle.std.specs.List.{AllByRecursion, IsDistinct, filter}
use Rattle.std.specs.List.Sorted.{IsPermutation, IsSorted, IsStrictlySortedBy}
use Rattle.std.specs.Ordering.{eq_by_cmp, is_eq, is_lt, nat_cmp, ordering_reverse, ordering_then}
use Rattle.std.specs.declared.cmp.Ordering.{Ordering}
use Rattle.std.specs.declared.cmp.Ordering.TheVariants.{Less, Equal, Greater}
use Rattle.std.proofs.Math.Seq.{get_or-append_seam}
use Rattle.std.proofs.lemmas.List.Kept.{IsStrictlySortedBy-filter}
use Rattle.std.proofs.lemmas.Map.Keys.{IsDistinct-IsPermutation}
use Rattle.std.proofs.lemmas.Map.Lookups.{CmpEqualImpliesEq, exact_bytes, exact_unsigned}
use Rattle.std.proofs.lemmas.Map.Views.{any-filter_same}
use Rattle.line_log.specs.Edits.{made}
use Rattle.line_log.specs.Sorting.{adds_at, edits_at, numbered, numbered_cmp}
use Rattle.line_log.proofs.Sets.{all_more, equal, has, same_set}
use Rattle.line_log.proofs.Standing.{same, same_made, stands, stands_only}

-- ---- lists without equal elements that are sorted

module _ {K : Type 0} {R : K → K → Ordering} (o : IsTotalOrder R) where
  less : (x y : K) → is_lt (R y x) ≡ false → eq_by_cmp R x y ≡ false → R x y ≡ Less
  less x y h e = by (R x y) refl e
    where
      by : (r : Ordering) → R x y ≡ r → is_eq r ≡ false → r ≡ Less
      by Less g e = refl
      by Equal g e = absurd cc
      by Greater g e = let back : R y x ≡ Less = o.antisymm y x ∙ ap ordering_reverse g in let bad : true ≡ false = sym (ap is_lt back) ∙ h in absurd cc

  pub below_all : (x y : K) (ys : List K) → R x y ≡ Less → AllByRecursion (λ z. R y z ≡ Less) ys → AllByRecursion (λ z. R x z ≡ Less) (y ∷ ys)
  below_all x y ys l a = (l, all_more (λ z. R y z ≡ Less) (λ z. R x z ≡ Less) (λ z m. o.trans x y z l m) ys a)

  pub rising_sorted : (xs : List K) → IsSorted R xs → IsDistinct (eq_by_cmp R) xs → IsStrictlySortedBy R xs
  unfolding IsDistinct IsStrictlySortedBy
  rising_sorted [] s d = tt
  rising_sorted (x ∷ []) s d = (tt, tt)
  rising_sorted (x ∷ y ∷ ys) s d =
      let next : (k : ℕ) → suc k + 1 ≡ suc (k + 1) = λ k. omega arith in
      let tail : IsSorted R (y ∷ ys) = λ k z low below.
      subst (λ (n : ℕ). is_lt (R (get_or (x ∷ y ∷ ys) n z) (get_or (y ∷ ys) k z)) ≡ false) (next k) (s (suc k) z (omega arith) (omega arith)) in
      let rest = rising_sorted (y ∷ ys) tail d.1 in
      (below_all x y ys (less x y (s 0 x (omega arith) (omega arith)) d.0.0) rest.0, rest)

-- ---- rows: lines with the numbers of their edits

pub row_total : IsTotalOrder numbered_cmp
row_total = then_total (on_total (λ t. t.0) nat_list_cmp_total) (on_total (λ t. t.1) nat_cmp_total)

both_equal : (r s : Ordering) → ordering_then r s ≡ Equal → (r ≡ Equal) × (s ≡ Equal)
both_equal Less s e = absurd cc
both_equal Equal s e = (refl, e)
both_equal Greater s e = absurd cc

row_exact : CmpEqualImpliesEq numbered_cmp
row_exact x y e =
    let both = both_equal (slice_cmp nat_cmp x.0 y.0) (nat_cmp x.1 y.1) e in
    ap (λ (l : List ℕ). (l, x.1)) (exact_bytes x.0 y.0 both.0) ∙ ap (λ (n : ℕ). (y.0, n)) (exact_unsigned x.1 y.1 both.1)

pub nat_less : (m n : ℕ) → m < n → nat_cmp m n ≡ Less
nat_less m n h = grind arith

then_less : (r : Ordering) → is_eq (ordering_then r Less) ≡ false
then_less Less = refl
then_less Equal = refl
then_less Greater = refl

-- the rows from a number on are all behind a row of a lower one
unlike_later : (l : List ℕ) (n m : ℕ) (es : List (Bool × List ℕ)) → n < m → AllByRecursion (λ y. eq_by_cmp numbered_cmp (l, n) y ≡ false) (numbered m es)
unlike_later l n m [] h = tt
unlike_later l n m (e ∷ es) h =
    (ap (λ (r : Ordering). is_eq (ordering_then (slice_cmp nat_cmp l e.1) r)) (nat_less n m h) ∙ then_less (slice_cmp nat_cmp l e.1), unlike_later l n (m + 1) es (omega arith))

distinct_numbered : (n : ℕ) (es : List (Bool × List ℕ)) → IsDistinct (eq_by_cmp numbered_cmp) (numbered n es)
unfolding IsDistinct
distinct_numbered n [] = tt
distinct_numbered n (e ∷ es) = (unlike_later e.1 n (n + 1) es (omega arith), distinct_numbered (n + 1) es)

is_flipped : (r : Ordering) → is_eq (ordering_reverse r) ≡ is_eq r
is_flipped Less = refl
is_flipped Equal = refl
is_flipped Greater = refl

flips : (x y : List ℕ × ℕ) → eq_by_cmp numbered_cmp x y ≡ eq_by_cmp numbered_cmp y x
flips x y = ap is_eq (row_total.antisymm x y) ∙ is_flipped (numbered_cmp y x)

-- ---- the rows of one line

abbrev pub only : List ℕ → List (List ℕ × ℕ) → List (List ℕ × ℕ)
only q rows = filter (λ r. same q r.0) rows

later : (q l : List ℕ) (n m : ℕ) (es : List (Bool × List ℕ)) → same q l ≡ true → n < m → AllByRecursion (λ y. numbered_cmp (l, n) y ≡ Less) (only q (numbered m es))
later q l n m [] s h = tt
later q l n m (e ∷ es) s h = by (same q e.1) refl (later q l n (m + 1) es s (omega arith))
  where
    by : (b : Bool) → same q e.1 ≡ b → AllByRecursion (λ y. numbered_cmp (l, n) y ≡ Less) (only q (numbered (m + 1) es))
        → AllByRecursion (λ y. numbered_cmp (l, n) y ≡ Less) (cond b ((e.1, m) ∷ only q (numbered (m + 1) es)) (only q (numbered (m + 1) es)))
    by true g a =
        let tied : slice_cmp nat_cmp l e.1 ≡ Equal = sym (nat_list_cmp_total.congr q l e.1 (equal (slice_cmp nat_cmp q l) s)) ∙ equal (slice_cmp nat_cmp q e.1) g in
        (ap (λ (r : Ordering). ordering_then r (nat_cmp n m)) tied ∙ nat_less n m h, a)
    by false g a = a

rising_only : (q : List ℕ) (n : ℕ) (es : List (Bool × List ℕ)) → IsStrictlySortedBy numbered_cmp (only q (numbered n es))
unfolding IsStrictlySortedBy
rising_only q n [] = tt
rising_only q n (e ∷ es) = by (same q e.1) refl (rising_only q (n + 1) es)
  where
    by : (b : Bool) → same q e.1 ≡ b → IsStrictlySortedBy numbered_cmp (only q (numbered (n + 1) es))
        → IsStrictlySortedBy numbered_cmp (cond b ((e.1, n) ∷ only q (numbered (n + 1) es)) (only q (numbered (n + 1) es)))
    by true g s = (later q e.1 n (n + 1) es g (omega arith), s)
    by false g s = s

has_only : (q : List ℕ) (r : List ℕ × ℕ) (rows : List (List ℕ × ℕ)) → has row_total r (only q rows) ≡ (same q r.0 && has row_total r rows)
has_only q r rows =
    any-filter_same (eq_by_cmp numbered_cmp r) (λ x. same q x.0) (same q r.0) (λ x t. ap (λ (y : List ℕ × ℕ). same q y.0) (sym (row_exact r x (equal (numbered_cmp r x) t)))) rows

-- sorted rows of edits rise
pub rising_rows : (n : ℕ) (es : List (Bool × List ℕ)) (rows : List (List ℕ × ℕ)) → IsPermutation (numbered n es) rows → IsSorted numbered_cmp rows → IsStrictlySortedBy numbered_cmp rows
rising_rows n es rows moved sorted = rising_sorted row_total rows sorted (IsDistinct-IsPermutation (eq_by_cmp numbered_cmp) flips (numbered n es) rows moved (distinct_numbered n es))

module _ (es : List (Bool × List ℕ)) (rows : List (List ℕ × ℕ)) (rising : IsStrictlySortedBy numbered_cmp rows) (those : (r : List ℕ × ℕ) → has row_total r (numbered 0 es) ≡ has row_total r rows) where
  same_only : (q : List ℕ) → only q (numbered 0 es) ≡ only q rows
  same_only q =
      same_set row_total row_exact (only q (numbered 0 es)) (only q rows) (rising_only q 0 es) (IsStrictlySortedBy-filter numbered_cmp (λ r. same q r.0) rows rising)
      (λ r. has_only q r (numbered 0 es) ∙ ap (λ (b : Bool). same q r.0 && b) (those r) ∙ sym (has_only q r rows))

-- ---- the edits of rows

only_edits : (es : List (Bool × List ℕ)) (q : List ℕ) (rows : List (List ℕ × ℕ)) → filter (λ e. same q e.1) (edits_at es rows) ≡ edits_at es (only q rows)
only_edits es q [] = refl
only_edits es q (r ∷ rows) = by (same q r.0) (only_edits es q rows)
  where
    by : (b : Bool) → filter (λ e. same q e.1) (edits_at es rows) ≡ edits_at es (only q rows)
        → cond b ((adds_at es r.1, r.0) ∷ filter (λ e. same q e.1) (edits_at es rows)) (filter (λ e. same q e.1) (edits_at es rows)) ≡ edits_at es (cond b (r ∷ only q rows) (only q rows))
    by true h = ap (λ (l : List (Bool × List ℕ)). (adds_at es r.1, r.0) ∷ l) h
    by false h = h

numbered_behind : (before es : List (Bool × List ℕ)) → edits_at (before ++ es) (numbered (length before) es) ≡ es
numbered_behind before [] = refl
numbered_behind before (e ∷ es) =
    let first : adds_at (before ++ e ∷ es) (length before) ≡ e.0 = ap (λ (f : Bool × List ℕ). f.0) (get_or-append_seam before e es (false, [])) in
    let next : edits_at (before ++ e ∷ es) (numbered (length before + 1) es) ≡ es =
    subst (λ (n : ℕ). edits_at (before ++ e ∷ es) (numbered n es) ≡ es) (length-append before (e ∷ []))
    (subst (λ (all : List (Bool × List ℕ)). edits_at all (numbered (length (before ++ e ∷ [])) es) ≡ es) (append_assoc before (e ∷ []) es) (numbered_behind (before ++ e ∷ []) es)) in
    ap (λ (b : Bool). (b, e.1) ∷ edits_at (before ++ e ∷ es) (numbered (length before + 1) es)) first ∙ ap (λ (l : List (Bool × List ℕ)). e ∷ l) next

-- rising rows that are those of all edits make what the edits make
pub made_sorted : (es : List (Bool × List ℕ)) (rows : List (List ℕ × ℕ)) → IsStrictlySortedBy numbered_cmp rows → ((r : List ℕ × ℕ) → has row_total r (numbered 0 es) ≡ has row_total r rows) → made (edits_at es rows) ≡ made es
made_sorted es rows rising those =
    same_made (edits_at es rows) es (λ q.
    stands_only q false (edits_at es rows) ∙ ap (stands q false) (only_edits es q rows) ∙ ap (λ (l : List (List ℕ × ℕ)). stands q false (edits_at es l)) (sym (same_only es rows rising those q))
    ∙ ap (stands q false) (sym (only_edits es q (numbered 0 es))) ∙ ap (λ (l : List (Bool × List ℕ)). stands q false (filter (λ e. same q e.1) l)) (numbered_behind [] es)
    ∙ sym (stands_only q false es))
