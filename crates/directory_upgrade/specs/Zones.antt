-- The upgrade of the files of a zone.
use Rattle.std.specs.Prelude.{◌≡◌, ◌↔◌, ℕ, ◌<◌, Bool, true, false, IsTrue, List, [], ◌∷◌}
use Rattle.std.specs.Prelude.{length, Some, Ok, Err}
use Rattle.disk_model.specs.Shelf.{SameOthers}
use Rattle.log_base.specs.declared.limits.TheConstants.{EMPTY_JOURNAL}
use Rattle.log_journal.specs.Front.{IsFront}
use Rattle.log_journal.specs.declared.at_front.FrontFault.{FrontFault}
use Rattle.slot_files.specs.Files.{Files, IsKept, bytes_at}
use Rattle.slot_checks.specs.Faults.{check_fault_of_front}
use Rattle.slot_checks.specs.declared.fault.CheckFault.{CheckFault}
use Rattle.slot_checks.specs.declared.fault.CheckFault.TheVariants as check
use Rattle.slot_checks.specs.declared.marker.TheConstants.{ZONE_MARKER}
use Rattle.journal_upgrade.specs.declared.fault.UpgradeFault.{UpgradeFault}
use Rattle.journal_upgrade.specs.declared.upgrade.Upgraded.{Upgraded}
use Rattle.directory_upgrade.specs.Faults.{check_fault_of_upgrade}
use Rattle.directory_upgrade.specs.Sets.{AreKeptButSpare}
use Rattle.directory_upgrade.specs.Ends.{IsSetEnd}

-- the first file of a zone, or both
abbrev pub zone_numbers : Bool → List ℕ
zone_numbers false = 1000 ∷ []
zone_numbers true = 1000 ∷ 1001 ∷ []

-- the second one too exactly where it is longer than an empty journal
abbrev pub AreZoneNumbers : List ℕ → List ℕ → Type 0
AreZoneNumbers second numbers = (both : Bool) × (numbers ≡ zone_numbers both)
    × (IsTrue both ↔ (EMPTY_JOURNAL < length second))

-- the second file was looked at, and every other one is as it was
pub record IsSeen (dir : List ℕ) (old new : Files) : Type 0 where
  pub kept : IsKept (old dir 1001) (new dir 1001)
  pub others : SameOthers (Some (dir, 1001)) old new

-- Why the files of a zone couldn't all be taken. That a call failed, and want of memory, are free.
pub data StopsTakingZone (files : Files) (dir : List ℕ) : CheckFault → Type 0 where
  at_zone_marker : (why : FrontFault)
      → IsFront (bytes_at files dir ZONE_MARKER) ZONE_MARKER (Err why)
      → StopsTakingZone files dir (check_fault_of_front ZONE_MARKER why)
  zone_failed : StopsTakingZone files dir check.Failed
  zone_no_memory : StopsTakingZone files dir check.OutOfMemory

-- the files of a zone were upgraded
pub record IsUpgradedZone (dir : List ℕ) (old new : Files) (done : Upgraded) : Type 0 where
  pub numbers : List ℕ
  pub are : AreZoneNumbers (bytes_at old dir 1001) numbers
  pub seen : Files
  pub is_seen : IsSeen dir old seen
  pub end : IsSetEnd dir ZONE_MARKER numbers seen new (Ok done)

-- Why they weren't: they couldn't all be taken, and each is as it was; or the upgrade of all ended
-- so.
pub data StopsZoneUpgrade (dir : List ℕ) (old new : Files) : CheckFault → Type 0 where
  zone_untaken : (fault : CheckFault) → StopsTakingZone old dir fault
      → AreKeptButSpare dir ZONE_MARKER (1000 ∷ 1001 ∷ []) old new
      → StopsZoneUpgrade dir old new fault
  zone_ended : (numbers : List ℕ) (seen : Files) (why : UpgradeFault)
      → AreZoneNumbers (bytes_at old dir 1001) numbers → IsSeen dir old seen
      → IsSetEnd dir ZONE_MARKER numbers seen new (Err why)
      → StopsZoneUpgrade dir old new (check_fault_of_upgrade why)
