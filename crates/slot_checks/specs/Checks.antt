-- What a check of all files tells, and how it leaves them.
use Rattle.std.specs.Prelude.{◌≡◌, ℕ, ◌+◌, ◌≤◌, List, ◌∷◌, length}
use Rattle.slot_files.specs.Files.{Files, IsKept, bytes_at}
use Rattle.slot_checks.specs.declared.fault.CheckFault.{CheckFault}
use Rattle.slot_checks.specs.declared.lines.FileLine.{FileLine}
use Rattle.slot_checks.specs.declared.lines.FileLine.TheVariants as line
use Rattle.slot_checks.specs.Faults.{HasRegistryFileFault, HasFileFault}
use Rattle.slot_checks.specs.Sound.{HoldsRegistry, AreLogLines}

-- the registry's line, and behind it those of the logs' files from 1 on and below a number
pub record HasFileLines (files : Files) (dir : List ℕ) (records end : ℕ)
    (report : List FileLine) : Type 0 where
  pub lines : List FileLine
  pub report_is : report ≡ line.Registry records ∷ lines
  pub logs : AreLogLines files dir 1 lines
  pub count : length lines + 1 ≡ end

-- all files are in their form: the registry's, and those of as many logs as it tells, each
-- with its line
pub record IsReport (files : Files) (dir : List ℕ) (report : List FileLine) : Type 0 where
  pub slots : ℕ
  pub records : ℕ
  pub registry : HoldsRegistry (bytes_at files dir 0) slots records
  pub lines : HasFileLines files dir records (slots + 1) report

-- the first fault of the file of a log, behind others that are in their form
pub record StopsAtLog (files : Files) (dir : List ℕ) (slots file : ℕ)
    (fault : CheckFault) : Type 0 where
  pub lines : List FileLine
  pub logs : AreLogLines files dir 1 lines
  pub file_is : file ≡ length lines + 1
  pub within : file ≤ slots
  pub fault_is : HasFileFault (bytes_at files dir file) file fault

-- The first fault of the first file that has one: the registry's, or that of a log. Want of
-- memory is free.
pub data CheckStopsAt (files : Files) (dir : List ℕ) (file : ℕ) (fault : CheckFault) : Type 0 where
  at_registry : file ≡ 0 → HasRegistryFileFault (bytes_at files dir 0) fault
      → CheckStopsAt files dir file fault
  at_log : (slots records : ℕ) → HoldsRegistry (bytes_at files dir 0) slots records
      → StopsAtLog files dir slots file fault → CheckStopsAt files dir file fault

-- each file of this directory below this end was kept, and every other file is as it was
pub record AreKept (dir : List ℕ) (end : ℕ) (old new : Files) : Type 0 where
  pub elsewhere : (other : List ℕ) (number : ℕ) → (other ≡ dir → ⊥)
      → new other number ≡ old other number
  pub here : (number : ℕ) → IsKept (old dir number) (new dir number)
  pub beyond : (number : ℕ) → end ≤ number → new dir number ≡ old dir number

-- the first fault of the first file that has one; no file behind it was asked for
pub record CheckStops (dir : List ℕ) (old new : Files) (fault : CheckFault) : Type 0 where
  pub file : ℕ
  pub stops : CheckStopsAt old dir file fault
  pub kept : AreKept dir (file + 1) old new

-- the first fault of a log's file; no file behind it was asked for
pub record StopsInLogs (dir : List ℕ) (slots : ℕ) (old new : Files)
    (fault : CheckFault) : Type 0 where
  pub file : ℕ
  pub stops : StopsAtLog old dir slots file fault
  pub kept : AreKept dir (file + 1) old new
