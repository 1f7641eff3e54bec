-- A hall's passes, of which one was used.
use Rattle.std.proofs.Common.{◌≡◌, ℕ, zero, suc, ◌<◌, refl, ap, ◌∙◌, subst, ⊎_elim, inl, inr, List, [], ◌∷◌, length, Some, slice_get, arith}
use Rattle.std.specs.Prelude.{slice_set}
use Rattle.disk_model.specs.declared.disk.Disk.{Ghosts}
use Rattle.turn_cell.specs.Turns.{AllOf, IsIn}
use Rattle.turn_cell.specs.Knowing.{pass_number}
use Rattle.delta_session.specs.Ends.{IsEnded}
use Rattle.delta_session.specs.Halls.{IsHallPass, AreHallPasses}
use Rattle.delta_session.specs.Steps.{HallView, HallSight}

module _ {A : Type 0} where
  set_all : (P : A → Type 0) (xs : List A) (k : ℕ) (y : A) → AllOf P xs → P y → AllOf P (slice_set xs k y)
  set_all P [] k y all new = tt
  set_all P (x ∷ xs) zero y all new = (new, all.1)
  set_all P (x ∷ xs) (suc k) y all new = (all.0, set_all P xs k y all.1 new)

  set_length : (xs : List A) (k : ℕ) (y : A) → length (slice_set xs k y) ≡ length xs
  set_length [] k y = refl
  set_length (x ∷ xs) zero y = refl
  set_length (x ∷ xs) (suc k) y = ap (λ (n : ℕ). suc n) (set_length xs k y)

  -- an item is there still, or was that at the place
  still_in : (xs : List A) (k : ℕ) (p y x : A) → slice_get xs k ≡ Some p → IsIn x xs → (P : A → Type 0) → P x → (P p → P y) → (left : A) × IsIn left (slice_set xs k y) × P left
  still_in [] k p y x at there P has f = absurd there
  still_in (z ∷ xs) zero p y x at there P has f =
      let same : z ≡ p = cc in
      ⊎_elim (λ (e : x ≡ z). (y, inl refl, f (subst P (e ∙ same) has))) (λ (i : IsIn x xs). (x, inr i, has)) there
  still_in (z ∷ xs) (suc k) p y x at there P has f =
      ⊎_elim (λ (e : x ≡ z). (x, inl e, has)) (λ (i : IsIn x xs). let more = still_in xs k p y x at i P has f in (more.0, inr more.1, more.2)) there

module _ {D : Type 0} (disks : Ghosts D) (hall : HallView D) where
  pub one_used : (passes : List HallSight) (k : ℕ) (p q : HallSight) → AreHallPasses disks hall passes → slice_get passes k ≡ Some p → IsHallPass disks hall q.lists
      → pass_number q.lists.registry ≡ pass_number p.lists.registry → AreHallPasses disks hall (slice_set passes k q)
  one_used passes k p q are at is same = record {
    of = set_all (λ (pass : HallSight). IsHallPass disks hall pass.lists) passes k q are.of is;
    count = set_length passes k q ∙ are.count;
    all = λ n positive high.
        let one = are.all n positive high in
        still_in passes k p q one.0 at one.1 (λ (pass : HallSight). pass_number pass.lists.registry ≡ n) one.2 (λ e. same ∙ e);
  }

  pub one_of : (passes : List HallSight) (k : ℕ) (p : HallSight) → AreHallPasses disks hall passes → slice_get passes k ≡ Some p → IsHallPass disks hall p.lists
  one_of passes k p are at = at_place passes k are.of at
    where
      at_place : (xs : List HallSight) (j : ℕ) → AllOf (λ (pass : HallSight). IsHallPass disks hall pass.lists) xs → slice_get xs j ≡ Some p → IsHallPass disks hall p.lists
      at_place [] j all is = let c = is in cc
      at_place (x ∷ xs) zero all is = let same : x ≡ p = cc in subst (λ (pass : HallSight). IsHallPass disks hall pass.lists) same all.0
      at_place (x ∷ xs) (suc j) all is = at_place xs j all.1 is

pub some_left : {D : Type 0} (disks : Ghosts D) (hall : HallView D) (passes : List HallSight) (left : List D) → IsEnded disks hall passes left → 0 < length left
some_left disks hall passes [] ended = absurd ended
some_left disks hall passes (disk ∷ more) ended = omega arith
