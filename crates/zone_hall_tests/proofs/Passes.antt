-- The two passes of a zone.
use Rattle.std.proofs.Common.{◌≡◌, ℕ, ◌+◌, List, [], ◌∷◌, ◌++◌, length, length-append, sym, refl, ap, ◌∙◌, subst, inl, inr, arith, Some, slice_get}
use Rattle.std.proofs.lemmas.List.{nil_from_length}
use mathlib.Core.Logic.{dite}
use native.Mathlib.Decide.{ℕ_discrete}
use Rattle.turn_cell.specs.Sights.{AreAll}
use Rattle.shared_zone.specs.History.{ZoneSight}

pub both_numbers : (seats : ℕ) (a b : ZoneSight) (items : List ZoneSight) → items ≡ a ∷ b ∷ [] → seats ≡ 2 → a.view.number ≡ 1 → b.view.number ≡ 2 → AreAll seats items
both_numbers seats a b items is two one_a two_b = subst (AreAll seats) (sym is) (λ n low high. dite (ℕ_discrete n 1)
    (λ e. (a, inl refl, one_a ∙ sym e)) (λ ne. (b, inr (inl refl), omega arith)))

module _ {A : Type 0} where
  -- the two of a list of two, which were popped from its end
  pub two_popped : (items rest none : List A) (a b : A) → items ≡ rest ++ b ∷ [] → rest ≡ none ++ a ∷ [] → length items ≡ 2 → (none ≡ []) × (slice_get items 0 ≡ Some a) × (slice_get items 1 ≡ Some b)
  two_popped items rest none a b p q len =
      let l1 : length items ≡ length rest + 1 = omega (arith, ap length p, length-append rest (b ∷ [])) in
      let l2 : length rest ≡ length none + 1 = omega (arith, ap length q, length-append none (a ∷ [])) in
      let e : none ≡ [] = nil_from_length none (omega arith) in
      let all : items ≡ a ∷ b ∷ [] = p ∙ ap (λ l. l ++ b ∷ []) (q ∙ ap (λ l. l ++ a ∷ []) e) in
      (e, ap (λ l. slice_get l 0) all, ap (λ l. slice_get l 1) all)
