-- The disks of a hall that was opened, refused or closed.
use Rattle.std.proofs.Common.{◌≡◌, inl, inr, ⊎_elim, ℕ, ◌+◌, ◌<◌, List, [], ◌∷◌, length, map, refl, sym, ◌∙◌, ap, subst, arith}
use Rattle.delta_base.specs.Outside.{Rose}
use Rattle.log_base.specs.declared.limits.LogLimits.{LogLimits}
use Rattle.log_base.specs.declared.limits.TheConstants.{LOG_LIMITS}
use Rattle.disk_model.specs.declared.disk.Disk.{Ghosts}
use Rattle.hall_logs.specs.Ends.{AreEnded}
use Rattle.hall_logs.specs.Files.{AreOpened, AreRefusedAt, AreSameDisks}
use Rattle.log_registry.specs.declared.fault.RegistryFault.{RegistryFault}
use Rattle.log_registry.specs.declared.fault.RegistryFault.TheVariants as registry
use Rattle.patch_log.specs.State.{LogView}
use Rattle.patch_log.specs.declared.fault.LogFault.{LogFault}
use Rattle.patch_log.specs.declared.fault.LogFault.TheVariants as log
use Rattle.shared_log.specs.History.{LogSight}
use Rattle.shared_log.specs.declared.value.LogFixed.{LogFixed}
use Rattle.shared_registry.specs.declared.value.RegistryFixed.{RegistryFixed}
use Rattle.turn_cell.specs.Sights.{Made}
use Rattle.turn_cell.specs.Turns.{IsIn}
use Rattle.delta_session.specs.Ends.{IsEnded}
use Rattle.delta_session.specs.Opening.{IsOpenedHall, IsRefusedHall, IsHallRefused, registry_refused, miscounted, log_refused, wanting, hall_fault_of_log, hall_fault_of_registry}
use Rattle.delta_session.specs.Steps.{HallView, HallSight}
use Rattle.delta_session.specs.declared.fault.HallFault.{HallFault}
use Rattle.delta_session.specs.declared.fault.HallFault.TheVariants as halls
use Rattle.delta_server.specs.Files.{AreMarked}

module _ {D : Type 0} (disks : Ghosts D) where
  -- ---- marks

  logs_refused_marked : (limits : LogLimits) (dir : List ℕ) (number file : ℕ) (fault : LogFault) (asked left : List D)
      → AreRefusedAt disks limits number asked file fault left → AreMarked disks dir number asked → AreMarked disks dir number left
  logs_refused_marked limits dir number file fault [] left refused are = absurd refused
  logs_refused_marked limits dir number file fault (disk ∷ before) [] refused are = absurd refused
  logs_refused_marked limits dir number file fault (disk ∷ before) (after ∷ left) refused are = ⊎_elim
      (λ here. (here.1.refused.mark ∙ are.0, subst (AreMarked disks dir (number + 1)) (sym here.2) are.1))
      (λ later.
      let opened = later.0 in (
        ap disks.mark opened.2 ∙ opened.1.reopened.mark ∙ are.0,
        logs_refused_marked limits dir (number + 1) file fault before left later.1 are.1,
      ))
      refused

  logs_left_marked : (dir : List ℕ) (number : ℕ) (asked left : List D)
      → AreSameDisks disks asked left → AreMarked disks dir number asked → AreMarked disks dir number left
  logs_left_marked dir number [] [] same are = tt
  logs_left_marked dir number [] (after ∷ left) same are = absurd same
  logs_left_marked dir number (disk ∷ before) [] same are = absurd same
  logs_left_marked dir number (disk ∷ before) (after ∷ left) same are =
      (same.0.mark ∙ are.0, logs_left_marked dir (number + 1) before left same.1 are.1)

  refused_one : (dir : List ℕ) (disk : D) (more : List D) (fault : HallFault) (after : D) (left : List D)
      → IsHallRefused disks disk more fault after left → AreMarked disks dir 0 (disk ∷ more) → AreMarked disks dir 0 (after ∷ left)
  refused_one dir disk more fault after left (registry_refused why is refused same) are =
      (refused.refused.mark ∙ are.0, subst (AreMarked disks dir 1) (sym same) are.1)
  refused_one dir disk more fault after left (miscounted slots is opened count same) are =
      (ap disks.mark opened.3 ∙ opened.1.reopened.mark ∙ are.0, subst (AreMarked disks dir 1) (sym same) are.1)
  refused_one dir disk more fault after left (log_refused file why is other opened refused) are =
      (ap disks.mark opened.3 ∙ opened.1.reopened.mark ∙ are.0, logs_refused_marked LOG_LIMITS dir 1 file why more left refused are.1)
  refused_one dir disk more fault after left (wanting is opened are_left) are =
      (ap disks.mark opened.3 ∙ opened.1.reopened.mark ∙ are.0, logs_left_marked dir 1 more left are_left are.1)

  -- a hall that was refused gives the disks of the same files
  pub refused_marked : (dir : List ℕ) (asked : List D) (fault : HallFault) (left : List D) → IsRefusedHall disks asked fault left
      → AreMarked disks dir 0 asked → AreMarked disks dir 0 left
  refused_marked dir [] fault left refused are = absurd refused
  refused_marked dir (disk ∷ more) fault [] refused are = absurd refused
  refused_marked dir (disk ∷ more) fault (after ∷ left) refused are = refused_one dir disk more fault after left refused are

  logs_ended_marked : (limits : LogLimits) (dir : List ℕ) (number place : ℕ) (asked : List D) (logs : List (Made (LogView D))) (passes : List (List LogSight)) (left : List D)
      → AreOpened disks limits number asked (map (λ made. made.origin) logs) → AreEnded disks place logs passes left
      → AreMarked disks dir number asked → AreMarked disks dir number left
  logs_ended_marked limits dir number place [] [] passes [] opened ended are = tt
  logs_ended_marked limits dir number place [] [] passes (disk ∷ left) opened ended are = absurd ended
  logs_ended_marked limits dir number place [] (made ∷ logs) passes left opened ended are = absurd opened
  logs_ended_marked limits dir number place (disk ∷ asked) [] passes left opened ended are = absurd opened
  logs_ended_marked limits dir number place (disk ∷ asked) (made ∷ logs) passes [] opened ended are = absurd ended
  logs_ended_marked limits dir number place (disk ∷ asked) (made ∷ logs) passes (after ∷ left) opened ended are = (
    ap disks.mark ended.0.disk_is ∙ ap (λ (f : LogFixed). f.mark) ended.0.closed.fixed ∙ opened.0.reopened.mark ∙ are.0,
    logs_ended_marked limits dir (number + 1) (place + 1) asked logs passes left opened.1 ended.1 are.1,
  )

  -- and so does one that was closed
  pub ended_marked : (dir : List ℕ) (asked : List D) (hall : HallView D) (passes : List HallSight) (left : List D) → IsOpenedHall disks asked hall
      → IsEnded disks hall passes left → AreMarked disks dir 0 asked → AreMarked disks dir 0 left
  ended_marked dir [] hall passes left opened ended are = absurd opened
  ended_marked dir (disk ∷ more) hall passes [] opened ended are = absurd ended
  ended_marked dir (disk ∷ more) hall passes (after ∷ left) opened ended are = (
    ap disks.mark ended.0.disk_is ∙ ap (λ (f : RegistryFixed). f.mark) ended.0.closed.fixed ∙ opened.0.reopened.mark ∙ are.0,
    logs_ended_marked LOG_LIMITS dir 1 0 more hall.logs.logs (map (λ (pass : HallSight). pass.lists.logs) passes) left opened.1 ended.1 are.1,
  )

  -- ---- lengths

  logs_refused_length : (limits : LogLimits) (number file : ℕ) (fault : LogFault) (asked left : List D)
      → AreRefusedAt disks limits number asked file fault left → length left ≡ length asked
  logs_refused_length limits number file fault [] left refused = absurd refused
  logs_refused_length limits number file fault (disk ∷ before) [] refused = absurd refused
  logs_refused_length limits number file fault (disk ∷ before) (after ∷ left) refused = ⊎_elim
      (λ here. ap (λ (l : List D). length (disk ∷ l)) here.2)
      (λ later. let same = logs_refused_length limits (number + 1) file fault before left later.1 in omega (arith, same))
      refused

  logs_left_length : (asked left : List D) → AreSameDisks disks asked left → length left ≡ length asked
  logs_left_length [] [] same = refl
  logs_left_length [] (after ∷ left) same = absurd same
  logs_left_length (disk ∷ before) [] same = absurd same
  logs_left_length (disk ∷ before) (after ∷ left) same =
      let more = logs_left_length before left same.1 in omega (arith, more)

  refused_length_one : (disk : D) (more : List D) (fault : HallFault) (after : D) (left : List D)
      → IsHallRefused disks disk more fault after left → length left ≡ length more
  refused_length_one disk more fault after left (registry_refused why is refused same) = ap length same
  refused_length_one disk more fault after left (miscounted slots is opened count same) = ap length same
  refused_length_one disk more fault after left (log_refused file why is other opened refused) = logs_refused_length LOG_LIMITS 1 file why more left refused
  refused_length_one disk more fault after left (wanting is opened are_left) = logs_left_length more left are_left

  pub refused_length : (asked : List D) (fault : HallFault) (left : List D) → IsRefusedHall disks asked fault left → length left ≡ length asked
  refused_length [] fault left refused = absurd refused
  refused_length (disk ∷ more) fault [] refused = absurd refused
  refused_length (disk ∷ more) fault (after ∷ left) refused =
      let same = refused_length_one disk more fault after left refused in omega (arith, same)

  logs_ended_length : (limits : LogLimits) (number place : ℕ) (asked : List D) (logs : List (Made (LogView D))) (passes : List (List LogSight)) (left : List D)
      → AreOpened disks limits number asked (map (λ made. made.origin) logs) → AreEnded disks place logs passes left → length left ≡ length asked
  logs_ended_length limits number place [] [] passes [] opened ended = refl
  logs_ended_length limits number place [] [] passes (disk ∷ left) opened ended = absurd ended
  logs_ended_length limits number place [] (made ∷ logs) passes left opened ended = absurd opened
  logs_ended_length limits number place (disk ∷ asked) [] passes left opened ended = absurd opened
  logs_ended_length limits number place (disk ∷ asked) (made ∷ logs) passes [] opened ended = absurd ended
  logs_ended_length limits number place (disk ∷ asked) (made ∷ logs) passes (after ∷ left) opened ended =
      let same = logs_ended_length limits (number + 1) (place + 1) asked logs passes left opened.1 ended.1 in omega (arith, same)

  pub ended_length : (asked : List D) (hall : HallView D) (passes : List HallSight) (left : List D) → IsOpenedHall disks asked hall
      → IsEnded disks hall passes left → length left ≡ length asked
  ended_length [] hall passes left opened ended = absurd opened
  ended_length (disk ∷ more) hall passes [] opened ended = absurd ended
  ended_length (disk ∷ more) hall passes (after ∷ left) opened ended =
      let same = logs_ended_length LOG_LIMITS 1 0 more hall.logs.logs (map (λ (pass : HallSight). pass.lists.logs) passes) left opened.1 ended.1 in
      omega (arith, same)

  -- ---- faults

  -- a disk that has failed
  pub record HasFailing (left : List D) : Type 0 where
    pub disk : D
    pub stands : IsIn disk left
    pub failed : 0 < disks.faults disk

  pub risen : (before after : ℕ) → Rose before after → 0 < after
  risen before after (inl more) = omega (arith, more)
  risen before after (inr last) = omega (arith, last)

  behind : (first : D) (left : List D) → HasFailing left → HasFailing (first ∷ left)
  behind first left failing = record { disk = failing.disk; stands = inr failing.stands; failed = failing.failed }

  registry_failed : (why : RegistryFault) → halls.DiskFault ≡ hall_fault_of_registry why → why ≡ registry.Failed
  registry_failed registry.Failed same = refl
  registry_failed (registry.Damaged at) same = absurd (cc)
  registry_failed registry.OldFormat same = absurd (cc)
  registry_failed (registry.WrongNumber found) same = absurd (cc)
  registry_failed (registry.OverLimit length limit) same = absurd (cc)
  registry_failed (registry.BrokenEvent place) same = absurd (cc)
  registry_failed registry.OutOfMemory same = absurd (cc)

  log_failed : (file : ℕ) (why : LogFault) → halls.DiskFault ≡ hall_fault_of_log file why → why ≡ log.Failed
  log_failed file log.Failed same = refl
  log_failed file (log.Damaged at) same = absurd (cc)
  log_failed file log.OldFormat same = absurd (cc)
  log_failed file (log.WrongNumber found) same = absurd (cc)
  log_failed file (log.OverLimit length limit) same = absurd (cc)
  log_failed file (log.BrokenChain version) same = absurd (cc)
  log_failed file log.OutOfMemory same = absurd (cc)

  logs_failing : (limits : LogLimits) (number file : ℕ) (fault : LogFault) (asked left : List D)
      → AreRefusedAt disks limits number asked file fault left → fault ≡ log.Failed → HasFailing left
  logs_failing limits number file fault [] left refused failed = absurd refused
  logs_failing limits number file fault (disk ∷ before) [] refused failed = absurd refused
  logs_failing limits number file fault (disk ∷ before) (after ∷ left) refused failed = ⊎_elim
      (λ here. record { disk = after; stands = inl refl; failed = risen (disks.faults disk) (disks.faults after) (here.1.refused.cause failed) })
      (λ later. behind after left (logs_failing limits (number + 1) file fault before left later.1 failed))
      refused

  failing_one : (disk : D) (more : List D) (fault : HallFault) (after : D) (left : List D)
      → IsHallRefused disks disk more fault after left → halls.DiskFault ≡ fault → HasFailing (after ∷ left)
  failing_one disk more fault after left (registry_refused why is refused same) failed = record {
    disk = after;
    stands = inl refl;
    failed = risen (disks.faults disk) (disks.faults after) (refused.refused.cause (registry_failed why (failed ∙ is)));
  }
  failing_one disk more fault after left (miscounted slots is opened count same) failed = absurd (other (failed ∙ is))
    where
      other : halls.DiskFault ≡ halls.WrongCount (length more + 1) slots → ⊥
      other same = cc
  failing_one disk more fault after left (log_refused file why is other opened refused) failed =
      behind after left (logs_failing LOG_LIMITS 1 file why more left refused (log_failed file why (failed ∙ is)))
  failing_one disk more fault after left (wanting is opened are_left) failed = absurd (other (failed ∙ is))
    where
      other : halls.DiskFault ≡ halls.OutOfMemory → ⊥
      other same = cc

  pub refused_failing : (asked : List D) (fault : HallFault) (left : List D) → IsRefusedHall disks asked fault left → fault ≡ halls.DiskFault → HasFailing left
  refused_failing [] fault left refused failed = absurd refused
  refused_failing (disk ∷ more) fault [] refused failed = absurd refused
  refused_failing (disk ∷ more) fault (after ∷ left) refused failed = failing_one disk more fault after left refused (sym failed)
