-- What a list in an order has after an insertion or a removal.
use Rattle.std.proofs.Common.{◌≡◌, Bool, true, false, cond, not, ◌&&◌, ◌||◌, List, [], ◌∷◌, refl, sym, ◌∙◌, ap}
use mathlib.Core.Bool.{true≢false}
use Rattle.std.specs.declared.cmp.Ordering.{Ordering}
use Rattle.std.specs.declared.cmp.Ordering.TheVariants.{Less, Equal, Greater}
use Rattle.std.specs.Ordering.{is_eq, eq_by_cmp, match_ordering, ordering_reverse}
use Rattle.std.specs.Cmp.{IsTotalOrder, IsEquivalence, eq_by_cmp_equiv}
use Rattle.std.specs.List.{list_any, AllByRecursion}
use Rattle.std.specs.List.Sorted.{IsStrictlySortedBy}
use Rattle.std.specs.BTreeSet.{insert_key}
use Rattle.std.specs.Set.{remove_key}
use Rattle.std.proofs.lemmas.Map.Keys.{sorted_head, sorted_tail}

or_absorb : (a b c : Bool) → a ≡ b → (b || c) ≡ (a || (b || c))
or_absorb true b c h = ap (λ v. v || c) (sym h)
or_absorb false b c h = refl

or_swap : (a b c : Bool) → (a || (b || c)) ≡ (b || (a || c))
or_swap true true c = refl
or_swap true false c = refl
or_swap false true c = refl
or_swap false false c = refl

or_none : (a b : Bool) → (a || b) ≡ false → (a ≡ false) × (b ≡ false)
or_none true b h = absurd (true≢false h)
or_none false b h = (refl, h)

module _ {K : Type 0} {R : K → K → Ordering} (o : IsTotalOrder R) where
  abbrev same : K → K → Bool
  same = eq_by_cmp R

  abbrev laws : IsEquivalence same
  laws = eq_by_cmp_equiv o

  -- keys that are the same answer alike
  alike : (q k x : K) → same k x ≡ true → same q k ≡ same q x
  alike q k x h = laws.symm q k ∙ laws.congr k x q h ∙ laws.symm x q

  inserted_at : (q k x : K) (xs : List K) (r : Ordering) → R k x ≡ r → list_any (same q) (insert_key R xs k) ≡ (same q k || list_any (same q) xs) → list_any (same q) (match_ordering r (k ∷ x ∷ xs) (x ∷ xs) (x ∷ insert_key R xs k)) ≡ (same q k || (same q x || list_any (same q) xs))
  inserted_at q k x xs Less p h = refl
  inserted_at q k x xs Equal p h = or_absorb (same q k) (same q x) (list_any (same q) xs) (alike q k x (ap is_eq p))
  inserted_at q k x xs Greater p h = ap (λ b. same q x || b) h ∙ or_swap (same q x) (same q k) (list_any (same q) xs)

  pub any_inserted : (q k : K) (xs : List K) → list_any (same q) (insert_key R xs k) ≡ (same q k || list_any (same q) xs)
  any_inserted q k [] = refl
  any_inserted q k (x ∷ xs) = inserted_at q k x xs (R k x) refl (any_inserted q k xs)

  back_at : (k x : K) (xs : List K) (r : Ordering) → R k x ≡ r → same k x ≡ false → remove_key (same k) (insert_key R xs k) ≡ xs → remove_key (same k) (match_ordering r (k ∷ x ∷ xs) (x ∷ xs) (x ∷ insert_key R xs k)) ≡ x ∷ xs
  back_at k x xs Less p a h = ap (λ b. cond b (x ∷ xs) (k ∷ remove_key (same k) (x ∷ xs))) (laws.refl k)
  back_at k x xs Equal p a h = absurd (true≢false (sym (ap is_eq p) ∙ a))
  back_at k x xs Greater p a h = ap (λ b. cond b (insert_key R xs k) (x ∷ remove_key (same k) (insert_key R xs k))) a ∙ ap (λ l. x ∷ l) h

  -- a new key goes out again
  pub removed_inserted : (k : K) (xs : List K) → list_any (same k) xs ≡ false → remove_key (same k) (insert_key R xs k) ≡ xs
  removed_inserted k [] h = ap (λ b. cond b [] (k ∷ [])) (laws.refl k)
  removed_inserted k (x ∷ xs) h =
      let a = or_none (same k x) (list_any (same k) xs) h in
      back_at k x xs (R k x) refl a.0 (removed_inserted k xs a.1)

  none_above : (q x : K) (xs : List K) → same q x ≡ true → AllByRecursion (λ y. R x y ≡ Less) xs → list_any (same q) xs ≡ false
  none_above q x [] e h = refl
  none_above q x (y ∷ ys) e h =
      ap (λ b. b || list_any (same q) ys) (laws.congr q x y e ∙ ap is_eq h.0) ∙ none_above q x ys e h.1

  removed_at : (q k x : K) (xs : List K) → AllByRecursion (λ y. R x y ≡ Less) xs → list_any (same q) (remove_key (same k) xs) ≡ (not (same k q) && list_any (same q) xs) → (b : Bool) → same k x ≡ b → (c : Bool) → same k q ≡ c → list_any (same q) (cond b xs (x ∷ remove_key (same k) xs)) ≡ (not c && (same q x || list_any (same q) xs))
  removed_at q k x xs s h true p true e = none_above q x xs (laws.symm q x ∙ sym (alike x k q e) ∙ laws.symm x k ∙ p) s
  removed_at q k x xs s h true p false e =
      sym (ap (λ v. v || list_any (same q) xs) (sym (alike q k x p) ∙ laws.symm q k ∙ e))
  removed_at q k x xs s h false p true e =
      ap (λ v. v || list_any (same q) (remove_key (same k) xs)) (laws.symm q x ∙ sym (alike x k q e) ∙ laws.symm x k ∙ p) ∙ h ∙ ap (λ v. not v && list_any (same q) xs) e
  removed_at q k x xs s h false p false e = ap (λ v. same q x || v) (h ∙ ap (λ v. not v && list_any (same q) xs) e)

  pub any_removed : (q k : K) (xs : List K) → IsStrictlySortedBy R xs → list_any (same q) (remove_key (same k) xs) ≡ (not (same k q) && list_any (same q) xs)
  any_removed q k [] s = none_both (not (same k q))
    where
      none_both : (b : Bool) → false ≡ (b && false)
      none_both true = refl
      none_both false = refl
  any_removed q k (x ∷ xs) s = removed_at q k x xs (sorted_head R x xs s) (any_removed q k xs (sorted_tail R x xs s)) (same k x) refl (same k q) refl

  none_below : (k x : K) (xs : List K) → R k x ≡ Less → AllByRecursion (λ y. R x y ≡ Less) xs → list_any (same k) xs ≡ false
  none_below k x [] p s = refl
  none_below k x (y ∷ ys) p s = ap (λ b. b || list_any (same k) ys) (ap is_eq (o.trans k x y p s.0)) ∙ none_below k x ys p s.1

  again_at : (k x : K) (xs : List K) (r : Ordering) → R k x ≡ r → AllByRecursion (λ y. R x y ≡ Less) xs → (same k x || list_any (same k) xs) ≡ true → (list_any (same k) xs ≡ true → insert_key R xs k ≡ xs) → match_ordering r (k ∷ x ∷ xs) (x ∷ xs) (x ∷ insert_key R xs k) ≡ x ∷ xs
  again_at k x xs Less p s h e = absurd (true≢false (sym h ∙ ap (λ v. v || list_any (same k) xs) (ap is_eq p) ∙ none_below k x xs p s))
  again_at k x xs Equal p s h e = refl
  again_at k x xs Greater p s h e = ap (λ l. x ∷ l) (e (ap (λ v. v || list_any (same k) xs) (sym (ap is_eq p)) ∙ h))

  -- a key that is there isn't added again
  pub inserted_again : (k : K) (xs : List K) → IsStrictlySortedBy R xs → list_any (same k) xs ≡ true → insert_key R xs k ≡ xs
  inserted_again k [] s h = absurd (true≢false (sym h))
  inserted_again k (x ∷ xs) s h = again_at k x xs (R k x) refl (sorted_head R x xs s) h (inserted_again k xs (sorted_tail R x xs s))

  -- ---- insertions and removals keep the order
  below_inserted : (x k : K) (xs : List K) → R x k ≡ Less → AllByRecursion (λ y. R x y ≡ Less) xs → AllByRecursion (λ y. R x y ≡ Less) (insert_key R xs k)
  below_inserted x k [] p h = (p, tt)
  below_inserted x k (y ∷ ys) p h = by_rank (AllByRecursion (λ z. R x z ≡ Less)) (R k y) (p, h) h (h.0, below_inserted x k ys p h.1)
    where
      by_rank : (P : List K → Type 0) (r : Ordering) {us vs ws : List K} → P us → P vs → P ws → P (match_ordering r us vs ws)
      by_rank P Less a b c = a
      by_rank P Equal a b c = b
      by_rank P Greater a b c = c

  all_above : (k x : K) (xs : List K) → R k x ≡ Less → AllByRecursion (λ y. R x y ≡ Less) xs → AllByRecursion (λ y. R k y ≡ Less) xs
  all_above k x [] p h = tt
  all_above k x (y ∷ ys) p h = (o.trans k x y p h.0, all_above k x ys p h.1)

  sorted_at : (k x : K) (xs ins : List K) (r : Ordering) → R k x ≡ r → IsStrictlySortedBy R (x ∷ xs) → (R x k ≡ Less → AllByRecursion (λ y. R x y ≡ Less) ins) → IsStrictlySortedBy R ins → IsStrictlySortedBy R (match_ordering r (k ∷ x ∷ xs) (x ∷ xs) (x ∷ ins))
  unfolding IsStrictlySortedBy
  sorted_at k x xs ins Less p s b i = ((p, all_above k x xs p s.0), s)
  sorted_at k x xs ins Equal p s b i = s
  sorted_at k x xs ins Greater p s b i = (b (o.antisymm x k ∙ ap ordering_reverse p), i)

  pub sorted_inserted : (k : K) (xs : List K) → IsStrictlySortedBy R xs → IsStrictlySortedBy R (insert_key R xs k)
  unfolding IsStrictlySortedBy
  sorted_inserted k [] s = (tt, tt)
  sorted_inserted k (x ∷ xs) s = sorted_at k x xs (insert_key R xs k) (R k x) refl s (λ p. below_inserted x k xs p s.0) (sorted_inserted k xs s.1)

  below_removed : (x : K) (test : K → Bool) (xs : List K) → AllByRecursion (λ y. R x y ≡ Less) xs → AllByRecursion (λ y. R x y ≡ Less) (remove_key test xs)
  below_removed x test [] h = tt
  below_removed x test (y ∷ ys) h = one (test y) (below_removed x test ys h.1)
    where
      one : (b : Bool) → AllByRecursion (λ z. R x z ≡ Less) (remove_key test ys) → AllByRecursion (λ z. R x z ≡ Less) (cond b ys (y ∷ remove_key test ys))
      one true r = h.1
      one false r = (h.0, r)

  pub sorted_removed : (test : K → Bool) (xs : List K) → IsStrictlySortedBy R xs → IsStrictlySortedBy R (remove_key test xs)
  unfolding IsStrictlySortedBy
  sorted_removed test [] s = tt
  sorted_removed test (x ∷ xs) s = one (test x) (sorted_removed test xs s.1)
    where
      one : (b : Bool) → IsStrictlySortedBy R (remove_key test xs) → IsStrictlySortedBy R (cond b xs (x ∷ remove_key test xs))
      one true r = s.1
      one false r = (below_removed x test xs s.0, r)
