-- What a pass has failed, and its own faults, behind a stay.
use Rattle.std.proofs.Common.{◌≡◌, ◌≢◌, ℕ, ◌≤◌, ◌⊎◌, List, [], ◌∷◌, ◌++◌, set, sym, refl, ap, subst, ⊎_elim, inl, inr, arith, eq-eqb, ne_eqb, Option, Some, None}
use mathlib.Core.Option as home
use mathlib.Core.Logic.{dite}
use native.Mathlib.Decide.{ℕ_discrete}
use lib.ListN.{get_elem?}
use Rattle.turn_cell.specs.declared.view.Stage.TheVariants.{Inside}
use Rattle.turn_cell.specs.declared.view.TakenIn.{TakenIn}
use Rattle.turn_cell.specs.declared.view.Role.TheVariants.{Pass}
use Rattle.turn_cell.specs.declared.view.View.{View}
use Rattle.turn_cell.specs.Turns.{IsIn, IsFailedOf, IsKnown, Adds, last_count, own_count}
use Rattle.turn_cell.proofs.Views.{known_still, view_there, in_last}

pub own_below : (own old new : ℕ) → own ≤ old → old ≤ new → own_count own old new ≤ new
own_below own old new a b = dite (ℕ_discrete new last_count)
    (λ e. rw (eq-eqb new last_count e) (omega arith))
    (λ ne. rw (ne_eqb new last_count ne) (omega arith))

pub same_stay : {Y : Type 0} (u u' : ℕ) (y y' : Y) → Inside u y ≡ Inside u' y' → (u ≡ u') × (y ≡ y')
same_stay u u' y y' e = let a : u ≡ u' = cc in let b : y ≡ y' = cc in (a, b)

-- doubts can be told apart
abbrev pub Apart : Type 0 → Type 0
Apart X = (a b : X) → (a ≡ b) ⊎ (a ≢ b)

module _ {X : Type 0} where
  same_doubt : Apart X → (c : X) (old : Option X) → (Some c ≡ old) ⊎ (Some c ≢ old)
  same_doubt apart c None = inr (λ e. cc)
  same_doubt apart c (Some d) = ⊎_elim (λ (e : c ≡ d). inl (ap Some e)) (λ (ne : c ≢ d). inr (λ (e : Some c ≡ Some d). ne (cc))) (apart c d)

  pub adds : Apart X → (old new : Option X) (failed : List X) → (after : List X) × Adds old new failed after
  adds apart old None failed = (failed, refl)
  adds apart old (Some c) failed = ⊎_elim (λ (e : Some c ≡ old). (failed, inl (e, refl))) (λ (ne : Some c ≢ old). (failed ++ c ∷ [], inr (ne, refl))) (same_doubt apart c old)

  pub known_after : {C F : Type 0} (first : Option X) (vs : List (View C X F)) (id : ℕ) (v w : View C X F) → get_elem? vs id ≡ home.some v → v.role ≡ Pass → w.past ≡ v.past → (old new : Option X) → Adds old new v.failed w.failed → IsKnown first vs old → IsKnown first (set vs id w) new
  known_after first vs id v w at is_pass past old None adds k = tt
  known_after {C} first vs id v w at is_pass past old (Some c) adds k = ⊎_elim
      (λ (p : (Some c ≡ old) × (w.failed ≡ v.failed)). known_still vs id v w at is_pass first (Some c) (λ d m. subst (λ (z : List X × List (TakenIn C X)). IsIn d z.0 ⊎ IsFailedOf d z.1) (λ i. (sym p.1 i, sym past i)) m) (subst (IsKnown first vs) (sym p.0) k))
      (λ (p : (Some c ≢ old) × (w.failed ≡ v.failed ++ c ∷ [])). inr (id, w, view_there vs id v w at, inl (subst (λ (l : List X). IsIn c l) (sym p.1) (in_last c v.failed)))) adds
