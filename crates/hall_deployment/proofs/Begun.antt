-- The log of a slot as it was opened, and as it was closed.
use Rattle.std.proofs.Common.{◌≡◌, ℕ, zero, suc, ◌+◌, List, [], ◌∷◌, map, refl, subst, arith, Some, slice_get}
use Rattle.disk_model.specs.declared.disk.Disk.{Ghosts}
use Rattle.log_base.specs.declared.limits.LogLimits.{LogLimits}
use Rattle.patch_log.specs.State.{LogView}
use Rattle.turn_cell.specs.Sights.{Made}
use Rattle.shared_log.specs.History.{LogSight}
use Rattle.hall_logs.specs.Ends.{parts_at, Ends, AreEnded}
use Rattle.hall_logs.specs.Files.{IsOpened, AreOpened}

module _ {D : Type 0} (disks : Ghosts D) where
  -- the log of a disk that was opened
  pub record OpenedAt (limits : LogLimits) (number : ℕ) (disk : D) (logs : List (Made (LogView D))) (place : ℕ) : Type 0 where
    pub log : Made (LogView D)
    pub log_is : slice_get logs place ≡ Some log
    pub is : IsOpened disks limits number disk log.origin

  pub opened_at : (limits : LogLimits) (number : ℕ) (all : List D) (logs : List (Made (LogView D))) (place : ℕ) (disk : D) → AreOpened disks limits number all (map (λ (log : Made (LogView D)). log.origin) logs) → slice_get all place ≡ Some disk → OpenedAt limits (number + place) disk logs place
  opened_at limits number [] logs place disk are is = let c = is in cc
  opened_at limits number (first ∷ more) [] place disk are is = absurd are
  opened_at limits number (first ∷ more) (log ∷ logs) zero disk are is =
      let same : first ≡ disk = cc in
      let at : number ≡ number + 0 = omega arith in
      record { log = log; log_is = refl; is = subst (λ (z : ℕ × D). IsOpened disks limits z.0 z.1 log.origin) (λ i. (at i, same i)) are.0 }
  opened_at limits number (first ∷ more) (log ∷ logs) (suc place) disk are is =
      let rest = opened_at limits (number + 1) more logs place disk are.1 is in
      let at : number + 1 + place ≡ number + suc place = omega arith in
      record { log = rest.log; log_is = rest.log_is; is = subst (λ (n : ℕ). IsOpened disks limits n disk rest.log.origin) at rest.is }

  -- the disk of a log that was closed
  pub record EndedAt (from : ℕ) (log : Made (LogView D)) (passes : List (List LogSight)) (left : List D) (place : ℕ) : Type 0 where
    pub disk : D
    pub disk_is : slice_get left place ≡ Some disk
    pub ends : Ends disks log (parts_at (from + place) passes) disk

  pub ended_at : (from : ℕ) (logs : List (Made (LogView D))) (passes : List (List LogSight)) (left : List D) (place : ℕ) (log : Made (LogView D)) → AreEnded disks from logs passes left → slice_get logs place ≡ Some log → EndedAt from log passes left place
  ended_at from [] passes left place log are is = let c = is in cc
  ended_at from (first ∷ logs) passes [] place log are is = absurd are
  ended_at from (first ∷ logs) passes (disk ∷ left) zero log are is =
      let same : first ≡ log = cc in
      let at : from ≡ from + 0 = omega arith in
      record { disk = disk; disk_is = refl; ends = subst (λ (z : ℕ × Made (LogView D)). Ends disks z.1 (parts_at z.0 passes) disk) (λ i. (at i, same i)) are.0 }
  ended_at from (first ∷ logs) passes (disk ∷ left) (suc place) log are is =
      let rest = ended_at (from + 1) logs passes left place log are.1 is in
      let at : from + 1 + place ≡ from + suc place = omega arith in
      record { disk = rest.disk; disk_is = rest.disk_is; ends = subst (λ (n : ℕ). Ends disks log (parts_at n passes) rest.disk) at rest.ends }
