-- A log that passes shared without a call has its disk when they close it.
use Rattle.std.proofs.Common.{◌≡◌, ℕ, zero, suc, ◌+◌, List, [], ◌∷◌, ◌++◌, map, length, length-append, refl, sym, ap, ◌∙◌, subst, append-nil, append_assoc, Option, Some, None, slice_get}
use Rattle.std.specs.Prelude.{reverse}
use Rattle.std.specs.List.{AllZip, cons_option}
use Rattle.std.proofs.lemmas.List.{reverse-append}
use Rattle.disk_model.specs.declared.disk.Disk.{Ghosts}
use Rattle.patch_log.specs.State.{LogView}
use Rattle.turn_cell.specs.Turns.{AllOf}
use Rattle.turn_cell.specs.Sights.{Made}
use Rattle.turn_cell.specs.Knowing.{turns_of}
use Rattle.shared_log.specs.History.{LogSight, shared_log}
use Rattle.turn_cell.specs.Sharing.{IsNewPassOf}
use Rattle.hall_logs.specs.Slots.{AreNew}
use Rattle.hall_logs.specs.Ends.{parts_at, AreEnded}
use Rattle.hall_logs.specs.Files.{IsDiskOf}
use Rattle.hall_logs.proofs.Parts.{get_middle}
use Rattle.hall_logs.proofs.Shares.{zip_one}

-- a pass that never drew a ticket
abbrev IsIdle : LogSight → Type 0
IsIdle part = turns_of part ≡ 0

module _ {D : Type 0} (disks : Ghosts D) (logs : List (Made (LogView D))) where
  -- new parts are idle
  idle_parts : (place : ℕ) (log : Made (LogView D)) → slice_get logs place ≡ Some log → (number : ℕ) (passes : List (List LogSight)) → AreNew disks logs number passes → AllOf IsIdle (parts_at place passes)
  idle_parts place log at number [] new = tt
  idle_parts place log at number (parts ∷ passes) new = behind (slice_get parts place) (one logs parts place new.0) (idle_parts place log at (number + 1) passes new.1)
    where
      IsIdleIn : Option LogSight → Type 0
      IsIdleIn None = Unit {0}
      IsIdleIn (Some part) = IsIdle part

      one : (xs : List (Made (LogView D))) (ps : List LogSight) (k : ℕ) → AllZip (λ log part. IsNewPassOf (shared_log disks) log number part) xs ps → IsIdleIn (slice_get ps k)
      one xs [] k all = tt
      one [] (p ∷ ps) k all = absurd all
      one (x ∷ xs) (p ∷ ps) zero all = all.0.7
      one (x ∷ xs) (p ∷ ps) (suc k) all = one xs ps k all.1

      behind : (o : Option LogSight) → IsIdleIn o → AllOf IsIdle (parts_at place passes) → AllOf IsIdle (cons_option o (parts_at place passes))
      behind None here rest = rest
      behind (Some part) here rest = (here, rest)

  module _ (passes : List (List LogSight)) (new : AreNew disks logs 1 passes) where
    ends_still : (front others : List (Made (LogView D))) → logs ≡ front ++ others → (left : List D) → AreEnded disks (length front) others passes left
        → AllZip (IsDiskOf disks) (map (λ (log : Made (LogView D)). log.origin) others) left
    ends_still front [] is [] ends = tt
    ends_still front [] is (d ∷ left) ends = absurd ends
    ends_still front (log ∷ others) is [] ends = absurd ends
    ends_still front (log ∷ others) is (d ∷ left) ends =
        let at : slice_get logs (length front) ≡ Some log = ap (λ l. slice_get l (length front)) is ∙ get_middle front log others in
        let rest = ends_still (front ++ log ∷ []) others (is ∙ sym (append_assoc front (log ∷ []) others)) left (subst (λ n. AreEnded disks n others passes left) (sym (length-append front (log ∷ []))) ends.1) in
        (ends.0.disk_is ∙ ap (λ (l : LogView D). l.disk) (ends.0.closed.untouched (idle_parts (length front) log at 1 passes new)), rest)

    pub all_still : (left : List D) → AreEnded disks 0 logs passes left → AllZip (IsDiskOf disks) (map (λ (log : Made (LogView D)). log.origin) logs) left
    all_still left ends = ends_still [] logs refl left ends

module _ {D : Type 0} (disks : Ghosts D) where
  -- some disks are given back; the logs of the others stand in reverse
  pub record GivingUp (all opened : List (LogView D)) (left : List D) : Type 0 where
    pub done : List (LogView D)
    pub all_is : all ≡ done ++ reverse opened
    pub still : AllZip (IsDiskOf disks) done left

  pub gives_one : (all opened rest : List (LogView D)) (log : LogView D) (left : List D) (disk : D) → opened ≡ rest ++ log ∷ [] → disk ≡ log.disk → GivingUp all opened left → GivingUp all rest (left ++ disk ∷ [])
  gives_one all opened rest log left disk popped is g = record {
    done = g.done ++ log ∷ [];
    all_is = g.all_is ∙ ap (λ l. g.done ++ l) (ap (λ (l : List (LogView D)). reverse l) popped ∙ reverse-append rest (log ∷ [])) ∙ sym (append_assoc g.done (log ∷ []) (reverse rest));
    still = zip_one (IsDiskOf disks) g.done left log disk g.still is;
  }

  pub all_given : (all : List (LogView D)) (left : List D) → GivingUp all [] left → AllZip (IsDiskOf disks) all left
  all_given all left g = subst (λ l. AllZip (IsDiskOf disks) l left) (sym (g.all_is ∙ append-nil g.done)) g.still

  pub as_many_ended : (place : ℕ) (logs : List (Made (LogView D))) (passes : List (List LogSight)) (left : List D) → AreEnded disks place logs passes left → length left ≡ length logs
  as_many_ended place [] passes [] all = refl
  as_many_ended place [] passes (d ∷ left) all = absurd all
  as_many_ended place (l ∷ logs) passes [] all = absurd all
  as_many_ended place (l ∷ logs) passes (d ∷ left) all = ap (λ (n : ℕ). suc n) (as_many_ended (place + 1) logs passes left all.1)
