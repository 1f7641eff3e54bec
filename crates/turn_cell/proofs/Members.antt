-- Which items a list has, and where, and the places of a number's entries.
use Rattle.std.proofs.Common.{◌≡◌, ◌⊎◌, inl, inr, ⊎_elim, ℕ, zero, suc, ◌+◌, Bool, true, false, cond, eqb, eq-eqb, List, [], ◌∷◌, ◌++◌, length, map, Some, slice_get, refl, ◌∙◌, sym, ap, subst, arith}
use Rattle.turn_cell.specs.declared.view.Known.{Known}
use Rattle.turn_cell.specs.Turns.{IsIn, AllOf, places_from}

pub in_either : {A : Type 0} (xs ys : List A) (x : A) → IsIn x (xs ++ ys) → IsIn x xs ⊎ IsIn x ys
in_either [] ys x i = inr i
in_either {A} (y ∷ xs) ys x i = ⊎_elim (λ (e : x ≡ y). inl (inl e))
    (λ (j : IsIn x (xs ++ ys)). ⊎_elim (λ (k : IsIn x xs). inl (inr k)) (λ (k : IsIn x ys). inr k) (in_either xs ys x j)) i

pub one_of_mapped : {A B : Type 0} (P : B → Type 0) (f : A → B) (xs : List A) (x : A) → AllOf P (map f xs) → IsIn x xs → P (f x)
one_of_mapped P f [] x all i = absurd i
one_of_mapped {A} P f (y ∷ ys) x all i = ⊎_elim (λ (e : x ≡ y). subst (λ (z : A). P (f z)) (sym e) all.0) (λ (j : IsIn x ys). one_of_mapped P f ys x all.1 j) i

pub unmapped : {A B : Type 0} (f : A → B) (xs : List A) (b : B) → IsIn b (map f xs) → (a : A) × IsIn a xs × (b ≡ f a)
unmapped f [] b i = absurd i
unmapped {A} {B} f (x ∷ xs) b i = ⊎_elim (λ (e : b ≡ f x). (x, inl refl, e))
    (λ (j : IsIn b (map f xs)). let there = unmapped f xs b j in (there.0, inr there.1, there.2)) i

pub all_got : {A : Type 0} (P : A → Type 0) (xs : List A) (k : ℕ) (x : A) → AllOf P xs → slice_get xs k ≡ Some x → P x
all_got P [] k x all is = absurd (cc)
all_got P (y ∷ xs) zero x all is = let same : y ≡ x = cc in subst P same all.0
all_got P (y ∷ xs) (suc k) x all is = all_got P xs k x all.1 is

pub in_none : {A : Type 0} (x : A) (xs : List A) → xs ≡ [] → IsIn x xs → ⊥
in_none x xs none i = subst (IsIn x) none i

none_more : (k : ℕ) → 0 + k ≡ k
none_more k = omega arith

pub got_behind : {A : Type 0} (front rest : List A) (k : ℕ) (x : A) → slice_get rest k ≡ Some x → slice_get (front ++ rest) (length front + k) ≡ Some x
got_behind [] rest k x is = ap (slice_get rest) (none_more k) ∙ is
got_behind (y ∷ front) rest k x is = let count : length (y ∷ front) + k ≡ suc (length front + k) = omega arith in ap (slice_get ((y ∷ front) ++ rest)) count ∙ got_behind front rest k x is

module _ {C : Type 0} where
  -- the place of an entry is one of its number
  pub place_in : (place by : ℕ) (h : List (Known C)) (k : ℕ) (known : Known C) (at : ℕ) → slice_get h k ≡ Some known → known.by ≡ by → at ≡ place + k → IsIn at (places_from place by h)
  place_in place by [] k known at is same there = absurd (cc)
  place_in place by (first ∷ h) zero known at is same there =
      let one : first ≡ known = cc in
      let number : first.by ≡ by = ap (λ (x : Known C). x.by) one ∙ same in
      let here : at ≡ place = omega (arith, there) in
      rw (eq-eqb first.by by number) (inl here)
  place_in place by (first ∷ h) (suc k) known at is same there =
      let further : at ≡ place + 1 + k = omega (arith, there) in
      skip (eqb first.by by) (place_in (place + 1) by h k known at is same further)
    where
      skip : (b : Bool) → IsIn at (places_from (place + 1) by h) → IsIn at (cond b (place ∷ places_from (place + 1) by h) (places_from (place + 1) by h))
      skip true i = inr i
      skip false i = i
