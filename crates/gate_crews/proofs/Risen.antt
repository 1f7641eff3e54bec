-- Counts of gates before and after.
use Rattle.std.proofs.Common.{◌≡◌, ⊎_elim, ℕ, ◌+◌, ◌<◌, ◌≤◌, List, length, map, get_or, refl, sym, ◌∙◌, ap, subst, arith}
use Rattle.std.specs.Prelude.{Some, option_map, slice_get}
use Rattle.std.proofs.lemmas.Bool.{cases_eq}
use Rattle.std.proofs.lemmas.Option.{get_or_from_slice_get, slice_get-get_or, slice_get-map, slice_get_read, slice_get_within}
use Rattle.std.proofs.lemmas.List.{length-map}
use Rattle.delta_base.specs.Outside.{Rose}
use Rattle.gate_crews.specs.Gates.{HaveFailed}

module _ {G : Type 0} (faults : G → ℕ) (counts : List ℕ) (before after : List G) (counted : counts ≡ map faults before)
    (same : length counts ≡ length after) where
  long : length before ≡ length after
  long = sym (length-map before faults) ∙ ap length (sym counted) ∙ same

  -- the count at a place is that of its gate
  count_at : (place : ℕ) (gate : G) → slice_get before place ≡ Some gate → get_or counts place 0 ≡ faults gate
  count_at place gate is =
      get_or_from_slice_get counts place (faults gate) 0
      (ap (λ (l : List ℕ). slice_get l place) counted ∙ slice_get-map faults before place ∙ ap (option_map faults) is)

  -- a gate whose count rose
  pub risen_at : (place : ℕ) (left : G) → place < length counts → left ≡ get_or after place left → Rose (get_or counts place 0) (faults left)
      → HaveFailed faults before after
  risen_at place left within is rose =
      let gate = get_or before place left in
      let there = slice_get-get_or before place left (omega (arith, within, same, long)) in (
        place,
        gate,
        left,
        there,
        slice_get_read after (length after) place left refl (omega (arith, within, same)) is,
        subst (λ (n : ℕ). Rose n (faults left)) (count_at place gate there) rose,
      )

  -- none up to a place
  abbrev pub NoneUpTo : ℕ → Type 0
  NoneUpTo end =
      (place : ℕ) (gate left : G) → place < end → slice_get before place ≡ Some gate → slice_get after place ≡ Some left
      → Rose (faults gate) (faults left) → ⊥

  pub none_more : (end : ℕ) (left : G) → left ≡ get_or after end left → end < length counts → (Rose (get_or counts end 0) (faults left) → ⊥)
      → NoneUpTo end → NoneUpTo (end + 1)
  none_more end left is within quiet none place gate other below there behind rose = ⊎_elim
      (λ here.
      let gate_at = subst (λ (k : ℕ). slice_get before k ≡ Some gate) here there in
      let left_at : other ≡ left =
      sym (get_or_from_slice_get after end other left (subst (λ (k : ℕ). slice_get after k ≡ Some other) here behind)) ∙ sym is in
      quiet (subst (λ (n : ℕ). Rose n (faults left)) (sym (count_at end gate gate_at)) (subst (λ (g : G). Rose (faults gate) (faults g)) left_at rose)))
      (λ differs. none place gate other (omega (arith, below, differs)) there behind rose)
      (cases_eq place end)

  pub none_failed : (end : ℕ) → length counts ≤ end → NoneUpTo end → HaveFailed faults before after → ⊥
  none_failed end far none failed =
      none failed.0 failed.1 failed.2 (omega (arith, far, same, long, slice_get_within before failed.0 failed.1 failed.3)) failed.3 failed.4 failed.5
