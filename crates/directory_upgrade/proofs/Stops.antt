-- Why files aren't taken.
use Rattle.std.proofs.Common.{◌≡◌, ◌⊎◌, inl, inr, ℕ, List, Err, sym, subst}
use Rattle.log_journal.specs.Front.{IsFront}
use Rattle.log_journal.specs.declared.at_front.FrontFault.{FrontFault}
use Rattle.slot_files.specs.Files.{Files, bytes_at}
use Rattle.slot_checks.specs.Faults.{check_fault_of_front}
use Rattle.slot_checks.specs.declared.fault.CheckFault.{CheckFault}
use Rattle.slot_checks.specs.declared.fault.CheckFault.TheVariants as check
use Rattle.slot_checks.specs.declared.marker.TheConstants.{FILES_MARKER, ZONE_MARKER}
use Rattle.directory_upgrade.specs.Directories.{StopsTaking, at_marker, failed, no_memory}
use Rattle.directory_upgrade.specs.Zones.{StopsTakingZone, at_zone_marker, zone_failed, zone_no_memory}

-- the marker has this fault at its front
abbrev HasFront : List ℕ → ℕ → CheckFault → Type 0
HasFront bytes number fault = (why : FrontFault) × (fault ≡ check_fault_of_front number why) × IsFront bytes number (Err why)

module _ (files : Files) (dir : List ℕ) (fault : CheckFault) where
  pub marker_stops : (number : ℕ) (bytes : List ℕ) → number ≡ FILES_MARKER → bytes ≡ bytes_at files dir FILES_MARKER → HasFront bytes number fault → StopsTaking files dir fault
  marker_stops number bytes is same has =
      let here = subst (λ (b : List ℕ). HasFront b FILES_MARKER fault) same (subst (λ (n : ℕ). HasFront bytes n fault) is has) in
      subst (StopsTaking files dir) (sym here.1) (at_marker here.0 here.2)

  pub free_stops : (fault ≡ check.Failed) ⊎ (fault ≡ check.OutOfMemory) → StopsTaking files dir fault
  free_stops (inl is) = subst (StopsTaking files dir) (sym is) failed
  free_stops (inr is) = subst (StopsTaking files dir) (sym is) no_memory

  pub zone_marker_stops : (number : ℕ) (bytes : List ℕ) → number ≡ ZONE_MARKER → bytes ≡ bytes_at files dir ZONE_MARKER → HasFront bytes number fault → StopsTakingZone files dir fault
  zone_marker_stops number bytes is same has =
      let here = subst (λ (b : List ℕ). HasFront b ZONE_MARKER fault) same (subst (λ (n : ℕ). HasFront bytes n fault) is has) in
      subst (StopsTakingZone files dir) (sym here.1) (at_zone_marker here.0 here.2)

  pub zone_free_stops : (fault ≡ check.Failed) ⊎ (fault ≡ check.OutOfMemory) → StopsTakingZone files dir fault
  zone_free_stops (inl is) = subst (StopsTakingZone files dir) (sym is) zone_failed
  zone_free_stops (inr is) = subst (StopsTakingZone files dir) (sym is) zone_no_memory
