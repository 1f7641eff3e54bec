-- Rows that are merged are sorted, and have what both have.
use Rattle.std.proofs.Common.{◌≡◌, Bool, true, false, ◌||◌, List, [], ◌∷◌, refl, sym, ap, ◌∙◌}
use Rattle.std.specs.Cmp.{IsTotalOrder, alike_right}
use Rattle.std.specs.List.{AllByRecursion}
use Rattle.std.specs.List.Sorted.{IsStrictlySortedBy}
use Rattle.std.specs.Ordering.{eq_by_cmp, is_eq, match_ordering, ordering_reverse}
use Rattle.std.specs.Set.{sorted_merge}
use Rattle.std.specs.declared.cmp.Ordering.{Ordering}
use Rattle.std.specs.declared.cmp.Ordering.TheVariants.{Less, Equal, Greater}
use Rattle.std.proofs.Math.Bool.{or_assoc, or-false}
use Rattle.line_log.proofs.Sets.{all_more, has}

once : (t a b : Bool) → (t || (a || b)) ≡ ((t || a) || (t || b))
once true a b = refl
once false a b = refl

swapped : (a b c : Bool) → (a || (b || c)) ≡ (b || (a || c))
swapped true true c = refl
swapped true false c = refl
swapped false b c = refl

module _ {K : Type 0} {R : K → K → Ordering} (o : IsTotalOrder R) where
  abbrev merge : List K → List K → List K
  merge = sorted_merge R true

  pub merge_none : (xs : List K) → merge xs [] ≡ xs
  merge_none [] = refl
  merge_none (x ∷ xs) = refl

  -- ---- what holds of both

  all_merge : (P : K → Type 0) (xs ys : List K) → AllByRecursion P xs → AllByRecursion P ys → AllByRecursion P (merge xs ys)
  all_merge P [] ys a b = b
  all_merge P (x ∷ xs) ys a b = at (λ zs c. all_merge P xs zs a.1 c) ys b
    where
      at : ((zs : List K) → AllByRecursion P zs → AllByRecursion P (merge xs zs)) → (ys : List K) → AllByRecursion P ys → AllByRecursion P (merge (x ∷ xs) ys)
      at on [] b = a
      at on (y ∷ ys) b = by (R x y) (at on ys b.1)
        where
          by : (r : Ordering) → AllByRecursion P (merge (x ∷ xs) ys) → AllByRecursion P (match_ordering r (x ∷ merge xs (y ∷ ys)) (x ∷ merge xs ys) (y ∷ merge (x ∷ xs) ys))
          by Less h = (a.0, on (y ∷ ys) b)
          by Equal h = (a.0, on ys b.1)
          by Greater h = (b.0, h)

  -- ---- order

  under : (x y : K) → R x y ≡ Greater → R y x ≡ Less
  under x y e = o.antisymm y x ∙ ap ordering_reverse e

  before_all : (x y : K) (ys : List K) → R x y ≡ Less → AllByRecursion (λ z. R y z ≡ Less) ys → AllByRecursion (λ z. R x z ≡ Less) (y ∷ ys)
  before_all x y ys l a = (l, all_more (λ z. R y z ≡ Less) (λ z. R x z ≡ Less) (λ z m. o.trans x y z l m) ys a)

  level_all : (x y : K) (ys : List K) → R x y ≡ Equal → AllByRecursion (λ z. R y z ≡ Less) ys → AllByRecursion (λ z. R x z ≡ Less) ys
  level_all x y ys e a = all_more (λ z. R y z ≡ Less) (λ z. R x z ≡ Less) (λ z m. o.congr x y z e ∙ m) ys a

  pub rising_merge : (xs ys : List K) → IsStrictlySortedBy R xs → IsStrictlySortedBy R ys → IsStrictlySortedBy R (merge xs ys)
  unfolding IsStrictlySortedBy
  rising_merge [] ys s t = t
  rising_merge (x ∷ xs) ys s t = at (λ zs u. rising_merge xs zs s.1 u) ys t
    where
      at : ((zs : List K) → IsStrictlySortedBy R zs → IsStrictlySortedBy R (merge xs zs)) → (ys : List K) → IsStrictlySortedBy R ys → IsStrictlySortedBy R (merge (x ∷ xs) ys)
      at on [] t = s
      at on (y ∷ ys) t = by (R x y) refl (at on ys t.1)
        where
          by : (r : Ordering) → R x y ≡ r → IsStrictlySortedBy R (merge (x ∷ xs) ys) → IsStrictlySortedBy R (match_ordering r (x ∷ merge xs (y ∷ ys)) (x ∷ merge xs ys) (y ∷ merge (x ∷ xs) ys))
          by Less e h = (all_merge (λ z. R x z ≡ Less) xs (y ∷ ys) s.0 (before_all x y ys e t.0), on (y ∷ ys) t)
          by Equal e h = (all_merge (λ z. R x z ≡ Less) xs ys s.0 (level_all x y ys e t.0), on ys t.1)
          by Greater e h = (all_merge (λ z. R y z ≡ Less) (x ∷ xs) ys (before_all y x xs (under x y e) s.0) t.0, h)

  -- ---- what is among them

  pub has_merge : (q : K) (xs ys : List K) → has o q (merge xs ys) ≡ (has o q xs || has o q ys)
  has_merge q [] ys = refl
  has_merge q (x ∷ xs) ys = at (has_merge q xs) ys
    where
      at : ((zs : List K) → has o q (merge xs zs) ≡ (has o q xs || has o q zs)) → (ys : List K) → has o q (merge (x ∷ xs) ys) ≡ (has o q (x ∷ xs) || has o q ys)
      at on [] = sym (or-false (has o q (x ∷ xs)))
      at on (y ∷ ys) = by (R x y) refl (at on ys)
        where
          by : (r : Ordering) → R x y ≡ r → has o q (merge (x ∷ xs) ys) ≡ (has o q (x ∷ xs) || has o q ys)
              → has o q (match_ordering r (x ∷ merge xs (y ∷ ys)) (x ∷ merge xs ys) (y ∷ merge (x ∷ xs) ys)) ≡ (has o q (x ∷ xs) || has o q (y ∷ ys))
          by Less e h = ap (λ b. eq_by_cmp R q x || b) (on (y ∷ ys)) ∙ sym (or_assoc (eq_by_cmp R q x) (has o q xs) (has o q (y ∷ ys)))
          by Equal e h =
              let tied : eq_by_cmp R q y ≡ eq_by_cmp R q x = ap is_eq (sym (alike_right o x y q e)) in
              ap (λ b. eq_by_cmp R q x || b) (on ys) ∙ once (eq_by_cmp R q x) (has o q xs) (has o q ys) ∙ ap (λ t. has o q (x ∷ xs) || (t || has o q ys)) (sym tied)
          by Greater e h = ap (λ b. eq_by_cmp R q y || b) h ∙ swapped (eq_by_cmp R q y) (has o q (x ∷ xs)) (has o q ys)
