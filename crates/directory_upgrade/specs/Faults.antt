-- The faults of an upgrade, told as those of files.
use Rattle.slot_checks.specs.declared.fault.CheckFault.{CheckFault}
use Rattle.slot_checks.specs.declared.fault.CheckFault.TheVariants as check
use Rattle.journal_upgrade.specs.declared.fault.UpgradeFault.{UpgradeFault}
use Rattle.journal_upgrade.specs.declared.fault.UpgradeFault.TheVariants as upgrade

-- the fault of a file, a spare or the marker
abbrev pub check_fault_of_upgrade : UpgradeFault → CheckFault
check_fault_of_upgrade upgrade.Failed = check.Failed
check_fault_of_upgrade (upgrade.Damaged file at) = check.Damaged file at
check_fault_of_upgrade (upgrade.WrongNumber file found) = check.WrongNumber file found
check_fault_of_upgrade (upgrade.OverLimit file length limit) = check.OverLimit file length limit
check_fault_of_upgrade upgrade.OutOfMemory = check.OutOfMemory
