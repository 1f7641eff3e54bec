-- The files of logs, and their disks before and behind an opening.
use Rattle.std.specs.Prelude.{◌≡◌, ◌⊎◌, ℕ, ◌+◌, List, [], ◌∷◌, None}
use Rattle.std.specs.List.{AllByRecursion, AllZip}
use Rattle.log_base.specs.declared.limits.LogLimits.{LogLimits}
use Rattle.disk_model.specs.declared.disk.Disk.{Ghosts}
use Rattle.disk_model.specs.Past.{reads, Keeps}
use Rattle.log_journal.specs.File.{Holds}
use Rattle.log_journal.specs.Written.{Reopened, RefusedOpening}
use Rattle.chain_core.specs.Runs.{AreWhole, file_length}
use Rattle.patch_log.specs.declared.fault.LogFault.{LogFault}
use Rattle.patch_log.specs.declared.fault.LogFault.TheVariants.{Failed}
use Rattle.patch_log.specs.Fault.{HasLogFault}
use Rattle.patch_log.specs.Log.{IsSoundLog, payloads_of}
use Rattle.patch_log.specs.State.{LogView, runs_in}

module _ {D : Type 0} (disks : Ghosts D) where
  -- It is the disk of the same file. A crash leaves what it might have left before, and a read
  -- gives what it gave.
  pub record IsSameDisk (before after : D) : Type 0 where
    pub mark : disks.mark after ≡ disks.mark before
    pub kept : disks.tells → Keeps (disks.past before) (disks.past after)

  -- the log of a file as it was opened: no pass brought its entries, each of which belongs to a
  -- whole run, and no run is in doubt
  pub record IsOpened (limits : LogLimits) (number : ℕ) (disk : D) (log : LogView D) : Type 0 where
    pub file : disks.tells → Holds (reads (disks.past disk)) number (payloads_of (runs_in log))
    pub sound : IsSoundLog limits (runs_in log)
    pub by_nobody : AllByRecursion (λ entry. entry.by ≡ 0) log.entries
    pub whole : AreWhole log.entries
    pub settled : (log.doubt ≡ None) × (log.number ≡ number) × (log.limits ≡ limits)
    pub reopened : Reopened disks disk log.disk (file_length (runs_in log))

  -- logs of files whose numbers go up from this one
  abbrev pub AreOpened : LogLimits → ℕ → List D → List (LogView D) → Type 0
  AreOpened limits number [] [] = Unit {0}
  AreOpened limits number (disk ∷ more) (log ∷ logs) =
      IsOpened limits number disk log × AreOpened limits (number + 1) more logs
  AreOpened limits number [] (log ∷ logs) = ⊥
  AreOpened limits number (disk ∷ more) [] = ⊥

  -- the file has this fault, unless its disk failed or memory ran out
  pub record IsRefusedLog (limits : LogLimits) (number : ℕ) (disk : D) (fault : LogFault)
      (after : D) : Type 0 where
    pub has : disks.tells → HasLogFault (reads (disks.past disk)) number limits fault
    pub refused : RefusedOpening disks (fault ≡ Failed) disk after

  -- the log of the file was opened, and let go
  abbrev pub WasLogOpened : LogLimits → ℕ → D → D → Type 0
  WasLogOpened limits number disk after =
      (log : LogView D) × IsOpened limits number disk log × (after ≡ log.disk)

  -- Of files whose numbers go up from this one, those before the one at fault are logs, and those
  -- behind it weren't asked.
  abbrev pub AreRefusedAt : LogLimits → ℕ → List D → ℕ → LogFault → List D → Type 0
  AreRefusedAt limits number (disk ∷ before) file fault (left ∷ after) =
      ((file ≡ number) × IsRefusedLog limits number disk fault left × (after ≡ before))
      ⊎ (WasLogOpened limits number disk left
      × AreRefusedAt limits (number + 1) before file fault after)
  AreRefusedAt limits number _ file fault _ = ⊥

  -- a log that no pass has come to
  abbrev pub IsFresh : LogView D → Type 0
  IsFresh log = AllByRecursion (λ entry. entry.by ≡ 0) log.entries × (log.doubt ≡ None)

  -- the disk is the one of the log
  abbrev pub IsDiskOf : LogView D → D → Type 0
  IsDiskOf log disk = disk ≡ log.disk

  -- each disk is the same one still, by its place
  abbrev pub AreSameDisks : List D → List D → Type 0
  AreSameDisks before after = AllZip IsSameDisk before after
