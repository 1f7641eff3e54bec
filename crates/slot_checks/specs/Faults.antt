-- Why a file of a registry and its logs isn't in its form.
use Rattle.std.specs.Prelude.{◌≡◌, ◌⊎◌, ℕ, List, Err}
use Rattle.log_base.specs.declared.limits.TheConstants.{LOG_LIMITS}
use Rattle.disk_model.specs.declared.shelf.ShelfFault.{ShelfFault}
use Rattle.disk_model.specs.declared.shelf.ShelfFault.TheVariants as shelf
use Rattle.log_journal.specs.Front.{HasFirst, IsFront}
use Rattle.log_journal.specs.declared.at_front.FrontFault.{FrontFault}
use Rattle.log_journal.specs.declared.at_front.FrontFault.TheVariants as front
use Rattle.log_registry.specs.Fault.{HasRegistryFault}
use Rattle.log_registry.specs.declared.fault.RegistryFault.{RegistryFault}
use Rattle.log_registry.specs.declared.fault.RegistryFault.TheVariants as registry
use Rattle.patch_log.specs.Fault.{HasLogFault}
use Rattle.patch_log.specs.declared.fault.LogFault.{LogFault}
use Rattle.patch_log.specs.declared.fault.LogFault.TheVariants as log
use Rattle.slot_checks.specs.declared.fault.CheckFault.{CheckFault}
use Rattle.slot_checks.specs.declared.fault.CheckFault.TheVariants as check

-- a fault of the registry, whose file has the number 0
abbrev pub check_fault_of_registry : RegistryFault → CheckFault
check_fault_of_registry registry.Failed = check.Failed
check_fault_of_registry (registry.Damaged at) = check.Damaged 0 at
check_fault_of_registry registry.OldFormat = check.OldFormat 0
check_fault_of_registry (registry.WrongNumber found) = check.WrongNumber 0 found
check_fault_of_registry (registry.OverLimit length limit) = check.OverLimit 0 length limit
check_fault_of_registry (registry.BrokenEvent place) = check.BrokenEvent place
check_fault_of_registry registry.OutOfMemory = check.OutOfMemory

-- a fault of a log, with its file
abbrev pub check_fault_of_log : ℕ → LogFault → CheckFault
check_fault_of_log file log.Failed = check.Failed
check_fault_of_log file (log.Damaged at) = check.Damaged file at
check_fault_of_log file log.OldFormat = check.OldFormat file
check_fault_of_log file (log.WrongNumber found) = check.WrongNumber file found
check_fault_of_log file (log.OverLimit length limit) = check.OverLimit file length limit
check_fault_of_log file log.OutOfMemory = check.OutOfMemory
check_fault_of_log file (log.BrokenChain version) = check.BrokenChain file version

-- a fault of the front of a journal, with its file
abbrev pub check_fault_of_front : ℕ → FrontFault → CheckFault
check_fault_of_front file front.Failed = check.Failed
check_fault_of_front file (front.Damaged at) = check.Damaged file at
check_fault_of_front file front.OldFormat = check.OldFormat file
check_fault_of_front file (front.WrongNumber found) = check.WrongNumber file found
check_fault_of_front file front.OutOfMemory = check.OutOfMemory

-- a fault of a shelf
abbrev pub of_shelf : ShelfFault → CheckFault
of_shelf shelf.Failed = check.Failed
of_shelf shelf.OutOfMemory = check.OutOfMemory

-- The registry's file has this fault, and none that comes before it. That a call failed, and want
-- of memory, are free.
abbrev pub HasRegistryFileFault : List ℕ → CheckFault → Type 0
HasRegistryFileFault file fault = (why : RegistryFault)
    × (fault ≡ check_fault_of_registry why) × HasRegistryFault file why

-- a log's file has this fault, and none that comes before it
abbrev pub HasFileFault : List ℕ → ℕ → CheckFault → Type 0
HasFileFault file number fault = (why : LogFault)
    × (fault ≡ check_fault_of_log number why) × HasLogFault file number LOG_LIMITS why

-- A payload stands in the marker of an upgrade, or its front has this fault. That a call failed,
-- and want of memory, are free.
abbrev pub HasMarkerFault : List ℕ → ℕ → CheckFault → Type 0
HasMarkerFault file number fault =
    ((fault ≡ check.UpgradePending number) × ((payload : List ℕ) × HasFirst file number payload))
    ⊎ ((why : FrontFault) × (fault ≡ check_fault_of_front number why)
    × IsFront file number (Err why))
