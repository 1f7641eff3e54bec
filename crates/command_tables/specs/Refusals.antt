-- Which refusals faults are, and what a refusal tells.
use Rattle.std.specs.Prelude.{◌≡◌, ◌⊎◌, ℕ, false}
use Rattle.slot_checks.specs.declared.fault.CheckFault.{CheckFault}
use Rattle.slot_checks.specs.declared.fault.CheckFault.TheVariants as checks
use Rattle.slot_files.specs.declared.fault.InitFault.{InitFault}
use Rattle.slot_files.specs.declared.fault.InitFault.TheVariants as inits
use Rattle.paired_zone.specs.declared.fault.PairFault.{PairFault}
use Rattle.paired_zone.specs.declared.fault.PairFault.TheVariants as pairs
use Rattle.command_tables.specs.declared.refusal.Refusal.{Refusal}
use Rattle.command_tables.specs.declared.refusal.Refusal.TheVariants as refusals
use Rattle.command_tables.specs.Channels.{Channel, TellsLine}
use Rattle.command_tables.specs.Lines.{refusal_line, exit_status, has_fixed_line}
use Rattle.command_tables.specs.Lines.{out_of_memory_line}

-- the end of a command that makes files, and why it couldn't
abbrev pub init_refusal : InitFault → Refusal
init_refusal (inits.NotEmpty number length) = refusals.NotEmpty number length
init_refusal inits.Failed = refusals.DiskFailed
init_refusal inits.OutOfMemory = refusals.OutOfMemory

-- the end of a check that finds a fault
abbrev pub check_refusal : CheckFault → Refusal
check_refusal checks.Failed = refusals.DiskFailed
check_refusal checks.OutOfMemory = refusals.OutOfMemory
check_refusal fault = refusals.File fault

-- the end of a command that finds a fault of the two files of a zone
abbrev pub pair_refusal : PairFault → Refusal
pair_refusal (pairs.Failed file) = refusals.DiskFailed
pair_refusal pairs.OutOfMemory = refusals.OutOfMemory
pair_refusal pairs.TermsFull = refusals.ZoneTermsFull
pair_refusal (pairs.BrokenCheckpoint file) = refusals.BrokenCheckpoint file
pair_refusal (pairs.Damaged file at) = refusals.File (checks.Damaged file at)
pair_refusal (pairs.OldFormat file) = refusals.File (checks.OldFormat file)
pair_refusal (pairs.WrongNumber file found) = refusals.File (checks.WrongNumber file found)
pair_refusal (pairs.OverLimit file size limit) = refusals.File (checks.OverLimit file size limit)
pair_refusal (pairs.BrokenChain file version) = refusals.File (checks.BrokenChain file version)

-- the line was told with its status; or it had to be made, and there was no memory for it
abbrev pub ReportsRefusal : Refusal → Channel → Channel → ℕ → Type 0
ReportsRefusal refusal err err' status =
    ((status ≡ exit_status refusal) × TellsLine err err' (refusal_line refusal))
    ⊎ ((has_fixed_line refusal ≡ false) × (status ≡ 8) × TellsLine err err' out_of_memory_line)
