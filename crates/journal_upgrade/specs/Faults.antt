-- Why files aren't upgraded.
use Rattle.std.specs.Prelude.{◌≡◌, ℕ, ◌+◌, ◌<◌, List, length, slice_index}
use Rattle.disk_model.specs.Past.{Past, reads}
use Rattle.log_journal.specs.Reading.{HasFaultIn, limit_for}
use Rattle.log_journal.specs.declared.form.Form.{Form}
use Rattle.log_journal.specs.declared.fault.JournalFault.{JournalFault}
use Rattle.log_journal.specs.declared.fault.JournalFault.TheVariants as journal
use Rattle.journal_upgrade.specs.Numbers.{limits_of}
use Rattle.journal_upgrade.specs.Copies.{past_at, IsWell}
use Rattle.journal_upgrade.specs.declared.fault.UpgradeFault.{UpgradeFault}
use Rattle.journal_upgrade.specs.declared.fault.UpgradeFault.TheVariants.{Failed, Damaged}
use Rattle.journal_upgrade.specs.declared.fault.UpgradeFault.TheVariants.{WrongNumber, OverLimit}
use Rattle.journal_upgrade.specs.declared.fault.UpgradeFault.TheVariants.{OutOfMemory}

-- a file has this fault in the form that it has
abbrev pub IsFaulty : ℕ → List ℕ → ℕ → JournalFault → Type 0
IsFaulty number file header fault =
    (form : Form) × HasFaultIn form file header (limit_for form (limits_of number)) fault

-- the file with this number in its header has this fault; that its disk failed, and want of
-- memory, are free
abbrev pub IsFileFault : ℕ → ℕ → List ℕ → UpgradeFault → Type 0
IsFileFault number header file (Damaged named at) =
    (named ≡ header) × IsFaulty number file header (journal.Damaged at)
IsFileFault number header file (WrongNumber named found) =
    (named ≡ header) × IsFaulty number file header (journal.WrongNumber found)
IsFileFault number header file (OverLimit named length limit) =
    (named ≡ header) × IsFaulty number file header (journal.OverLimit length limit)
IsFileFault number header file Failed = Unit {0}
IsFileFault number header file OutOfMemory = Unit {0}

-- the first file that isn't whole has this fault; the number in its header is `file`
pub record HasFirstFault {D : Type 0} (past : D → Past) (more : ℕ) (numbers : List ℕ)
    (disks : List D) (file : ℕ) (fault : JournalFault) : Type 0 where
  pub place : ℕ
  pub within : place < length numbers
  pub file_is : file ≡ slice_index numbers place + more
  pub faulty : IsFaulty (slice_index numbers place) (reads (past_at past disks place)) file fault
  pub before : (i : ℕ) → i < place → (form : Form)
      × IsWell form (slice_index numbers i) (reads (past_at past disks i))
      (slice_index numbers i + more)

-- the first fault of the files; that a disk failed, and want of memory, are free
abbrev pub IsUpgradeFault : {D : Type 0} → (D → Past) → ℕ → List ℕ → List D → UpgradeFault
    → Type 0
IsUpgradeFault past more numbers disks (Damaged file at) =
    HasFirstFault past more numbers disks file (journal.Damaged at)
IsUpgradeFault past more numbers disks (WrongNumber file found) =
    HasFirstFault past more numbers disks file (journal.WrongNumber found)
IsUpgradeFault past more numbers disks (OverLimit file length limit) =
    HasFirstFault past more numbers disks file (journal.OverLimit length limit)
IsUpgradeFault past more numbers disks Failed = Unit {0}
IsUpgradeFault past more numbers disks OutOfMemory = Unit {0}
