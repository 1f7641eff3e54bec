-- The part of a pass at a slot.
use Rattle.std.proofs.Common.{◌≡◌, ℕ, zero, suc, ◌-◌, ◌<◌, ◌≤◌, List, [], ◌∷◌, ◌++◌, length, refl, sym, ◌∙◌, subst, arith, Some, slice_get, slice_index_or}
use Rattle.std.specs.Prelude.{slice_set}
use Rattle.std.specs.List.{AllZip}
use Rattle.std.proofs.lemmas.Option.{slice_get_read}
use Rattle.std.proofs.lemmas.Slice.Zip.{AllZip-long}
use Rattle.disk_model.specs.declared.disk.Disk.{Ghosts}
use Rattle.patch_log.specs.State.{LogView}
use Rattle.turn_cell.specs.Sights.{Made}
use Rattle.turn_cell.specs.Knowing.{SeesOn}
use Rattle.turn_cell.specs.Sharing.{IsPassOf}
use Rattle.shared_log.specs.History.{LogSight, shared_log}
use Rattle.hall_logs.specs.Slots.{ArePartsOf, HasPart, OnSlot}

module _ {A B : Type 0} (R : A → B → Type 0) where
  pub zip_at : (xs : List A) (ys : List B) (k : ℕ) (x : A) (y : B) → AllZip R xs ys → slice_get xs k ≡ Some x → slice_get ys k ≡ Some y → R x y
  zip_at [] ys k x y all at is = let c = at in cc
  zip_at (a ∷ xs) [] k x y all at is = absurd all
  zip_at (a ∷ xs) (b ∷ ys) zero x y all at is = let one : a ≡ x = cc in let other : b ≡ y = cc in subst (λ (z : A × B). R z.0 z.1) (λ i. (one i, other i)) all.0
  zip_at (a ∷ xs) (b ∷ ys) (suc k) x y all at is = zip_at xs ys k x y all.1 at is

  pub zip_set : (xs : List A) (ys : List B) (k : ℕ) (x : A) (y : B) → AllZip R xs ys → slice_get xs k ≡ Some x → R x y → AllZip R xs (slice_set ys k y)
  zip_set [] ys k x y all at new = let c = at in cc
  zip_set (a ∷ xs) [] k x y all at new = absurd all
  zip_set (a ∷ xs) (b ∷ ys) zero x y all at new = let one : a ≡ x = cc in (subst (λ z. R z y) (sym one) new, all.1)
  zip_set (a ∷ xs) (b ∷ ys) (suc k) x y all at new = (all.0, zip_set xs ys k x y all.1 at new)

pub get_there : {A : Type 0} (xs : List A) (k : ℕ) (x : A) → k < length xs → x ≡ slice_index_or xs k x → slice_get xs k ≡ Some x
get_there xs k x low is = slice_get_read xs (length xs) k x refl low is

pub get_middle : {A : Type 0} (front : List A) (x : A) (rest : List A) → slice_get (front ++ (x ∷ rest)) (length front) ≡ Some x
get_middle [] x rest = refl
get_middle (y ∷ front) x rest = get_middle front x rest

module _ {D : Type 0} (disks : Ghosts D) where
  -- a call leaves a pass of the same log
  pub still_pass : (log : Made (LogView D)) (p q : LogSight) → IsPassOf (shared_log disks) log p → SeesOn p q → IsPassOf (shared_log disks) log q
  still_pass log p q of sees = (sees.0.0 ∙ of.0, sees.1, sees.0.3 ∙ of.2)

  pub has_part : (logs : List (Made (LogView D))) (parts : List LogSight) (slot : ℕ) (log : Made (LogView D)) → ArePartsOf disks logs parts → (0 < slot) × (slot ≤ length logs) → log ≡ slice_index_or logs (slot - 1) log → HasPart disks logs parts slot log
  has_part logs parts slot log of within is =
      let at = get_there logs (slot - 1) log (omega (arith, within.0, within.1)) is in record {
        within = (within.0, omega (arith, within.1, AllZip-long (IsPassOf (shared_log disks)) logs parts of));
        log_is = at;
        of = λ part there. zip_at (IsPassOf (shared_log disks)) logs parts (slot - 1) log part of at there;
        still = λ part pass. zip_set (IsPassOf (shared_log disks)) logs parts (slot - 1) log part of at pass;
      }

  -- what a call did on the log of a slot, it did on the slot
  pub on_slot : {logs : List (Made (LogView D))} {parts : List LogSight} {slot : ℕ} {log : Made (LogView D)} {p : LogSight} {R : Made (LogView D) → LogSight → LogSight → Type 0} → HasPart disks logs parts slot log → slice_get parts (slot - 1) ≡ Some p
      → (q : LogSight) → R log p q → OnSlot slot R logs parts (slice_set parts (slot - 1) q)
  on_slot {logs} {parts} {slot} {log} {p} {R} has at q so = record {
    place = slot - 1;
    log = log;
    old = p;
    new = q;
    slot_is = omega (arith, has.within.0);
    log_is = has.log_is;
    old_is = at;
    others = refl;
    so = so;
  }
