-- The end of an upgrade, told of the files as they were before any was opened.
use Rattle.std.proofs.Common.{◌≡◌, ℕ, List, sym, subst}
use Rattle.std.specs.Prelude.{Bool, IsTrue, ◌↔◌, ◌<◌, length, Result, Ok, Err, IfOk, IfErr}
use Rattle.log_base.specs.declared.limits.TheConstants.{EMPTY_JOURNAL}
use Rattle.slot_files.specs.Files.{Files, bytes_at}
use Rattle.slot_checks.specs.declared.fault.CheckFault.{CheckFault}
use Rattle.slot_checks.specs.declared.marker.TheConstants.{FILES_MARKER, ZONE_MARKER}
use Rattle.journal_upgrade.specs.declared.fault.UpgradeFault.{UpgradeFault}
use Rattle.journal_upgrade.specs.declared.upgrade.Upgraded.{Upgraded}
use Rattle.directory_upgrade.specs.Ends.{IsSetEnd}
use Rattle.directory_upgrade.specs.Faults.{check_fault_of_upgrade}
use Rattle.directory_upgrade.specs.Directories.{up_to, HasSlots, IsUpgradedDirectory, StopsUpgrade, ended}
use Rattle.directory_upgrade.specs.Zones.{IsSeen, IsUpgradedZone, StopsZoneUpgrade, zone_ended, zone_numbers}

module _ (dir : List ℕ) (old new : Files) (numbers : List ℕ) (r : Result Upgraded CheckFault) where
  -- an upgrade of a directory
  module _ (slots : ℕ) (are : numbers ≡ up_to slots) (has : HasSlots old dir slots) where
    pub directory_done : IfOk r (λ done. IsSetEnd dir FILES_MARKER numbers old new (Ok done)) → IfOk r (IsUpgradedDirectory dir old new)
    directory_done all = by r all
      where
        by : (r : Result Upgraded CheckFault) → IfOk r (λ done. IsSetEnd dir FILES_MARKER numbers old new (Ok done)) → IfOk r (IsUpgradedDirectory dir old new)
        by (Ok done) all = record { slots = slots; has = has; end = subst (λ (l : List ℕ). IsSetEnd dir FILES_MARKER l old new (Ok done)) are all }
        by (Err fault) all = tt

    pub directory_ended : IfErr r (λ fault. (why : UpgradeFault) × (fault ≡ check_fault_of_upgrade why) × IsSetEnd dir FILES_MARKER numbers old new (Err why)) → IfErr r (StopsUpgrade dir old new)
    directory_ended all = by r all
      where
        by : (r : Result Upgraded CheckFault) → IfErr r (λ fault. (why : UpgradeFault) × (fault ≡ check_fault_of_upgrade why) × IsSetEnd dir FILES_MARKER numbers old new (Err why)) → IfErr r (StopsUpgrade dir old new)
        by (Ok done) all = tt
        by (Err fault) all = subst (StopsUpgrade dir old new) (sym all.1) (ended slots all.0 has (subst (λ (l : List ℕ). IsSetEnd dir FILES_MARKER l old new (Err all.0)) are all.2))

  -- an upgrade of a zone, whose second file was looked at before
  module _ (before : Files) (both : Bool) (are : numbers ≡ zone_numbers both) (long : IsTrue both ↔ (EMPTY_JOURNAL < length (bytes_at before dir 1001))) (seen : IsSeen dir before old) where
    pub zone_done : IfOk r (λ done. IsSetEnd dir ZONE_MARKER numbers old new (Ok done)) → IfOk r (IsUpgradedZone dir before new)
    zone_done all = by r all
      where
        by : (r : Result Upgraded CheckFault) → IfOk r (λ done. IsSetEnd dir ZONE_MARKER numbers old new (Ok done)) → IfOk r (IsUpgradedZone dir before new)
        by (Ok done) all = record { numbers = numbers; are = (both, are, long); seen = old; is_seen = seen; end = all }
        by (Err fault) all = tt

    pub zone_stopped : IfErr r (λ fault. (why : UpgradeFault) × (fault ≡ check_fault_of_upgrade why) × IsSetEnd dir ZONE_MARKER numbers old new (Err why)) → IfErr r (StopsZoneUpgrade dir before new)
    zone_stopped all = by r all
      where
        by : (r : Result Upgraded CheckFault) → IfErr r (λ fault. (why : UpgradeFault) × (fault ≡ check_fault_of_upgrade why) × IsSetEnd dir ZONE_MARKER numbers old new (Err why)) → IfErr r (StopsZoneUpgrade dir before new)
        by (Ok done) all = tt
        by (Err fault) all = subst (StopsZoneUpgrade dir before new) (sym all.1) (zone_ended numbers old all.0 (both, are, long) seen all.2)
