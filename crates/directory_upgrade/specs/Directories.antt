-- The upgrade of the files of a registry and its logs.
use Rattle.std.specs.Prelude.{◌⊎◌, ℕ, zero, suc, List, [], ◌∷◌, ◌++◌, Ok, Err}
use Rattle.log_journal.specs.Front.{HoldsNothing, IsFront}
use Rattle.log_journal.specs.declared.at_front.FrontFault.{FrontFault}
use Rattle.slot_files.specs.Files.{Files, bytes_at}
use Rattle.slot_checks.specs.Faults.{check_fault_of_front}
use Rattle.slot_checks.specs.declared.fault.CheckFault.{CheckFault}
use Rattle.slot_checks.specs.declared.fault.CheckFault.TheVariants as check
use Rattle.slot_checks.specs.declared.marker.TheConstants.{FILES_MARKER}
use Rattle.journal_upgrade.specs.Marker.{IsMarked}
use Rattle.journal_upgrade.specs.declared.fault.UpgradeFault.{UpgradeFault}
use Rattle.journal_upgrade.specs.declared.upgrade.Upgraded.{Upgraded}
use Rattle.directory_upgrade.specs.Faults.{check_fault_of_upgrade}
use Rattle.directory_upgrade.specs.Sets.{AreKeptButSpare}
use Rattle.directory_upgrade.specs.Slots.{FileTells, SpareTells, FileStops, SpareStops}
use Rattle.directory_upgrade.specs.Ends.{IsSetEnd}

-- the numbers from 0 up to this one
abbrev pub up_to : ℕ → List ℕ
up_to zero = 0 ∷ []
up_to (suc number) = up_to number ++ suc number ∷ []

-- nothing stands in the marker of a directory
abbrev pub IsQuiet : Files → List ℕ → Type 0
IsQuiet files dir = HoldsNothing (bytes_at files dir FILES_MARKER) FILES_MARKER

-- a payload stands in it
abbrev pub IsPending : Files → List ℕ → Type 0
IsPending files dir = IsMarked (bytes_at files dir FILES_MARKER) FILES_MARKER

-- the directory has so many slots
abbrev pub HasSlots : Files → List ℕ → ℕ → Type 0
HasSlots files dir slots = (IsQuiet files dir × FileTells (bytes_at files dir 0) slots)
    ⊎ (IsPending files dir × SpareTells (bytes_at files dir 2000) slots)

-- Why the files of a directory aren't all known. That a call failed, and want of memory, are free.
pub data StopsTaking (files : Files) (dir : List ℕ) : CheckFault → Type 0 where
  at_marker : (why : FrontFault)
      → IsFront (bytes_at files dir FILES_MARKER) FILES_MARKER (Err why)
      → StopsTaking files dir (check_fault_of_front FILES_MARKER why)
  at_registry : (fault : CheckFault) → IsQuiet files dir
      → FileStops (bytes_at files dir 0) fault → StopsTaking files dir fault
  at_spare : (fault : CheckFault) → IsPending files dir
      → SpareStops (bytes_at files dir 2000) fault → StopsTaking files dir fault
  failed : StopsTaking files dir check.Failed
  no_memory : StopsTaking files dir check.OutOfMemory

-- the files of a directory were upgraded, as many as its registry tells
pub record IsUpgradedDirectory (dir : List ℕ) (old new : Files) (done : Upgraded)
    : Type 0 where
  pub slots : ℕ
  pub has : HasSlots old dir slots
  pub end : IsSetEnd dir FILES_MARKER (up_to slots) old new (Ok done)

-- Why they weren't: not all are known, and each is as it was but for a spare that is filled anew;
-- or the upgrade of all ended so.
pub data StopsUpgrade (dir : List ℕ) (old new : Files) : CheckFault → Type 0 where
  untaken : (fault : CheckFault) → StopsTaking old dir fault
      → AreKeptButSpare dir FILES_MARKER (up_to 16) old new
      → StopsUpgrade dir old new fault
  ended : (slots : ℕ) (why : UpgradeFault) → HasSlots old dir slots
      → IsSetEnd dir FILES_MARKER (up_to slots) old new (Err why)
      → StopsUpgrade dir old new (check_fault_of_upgrade why)
