-- What a log has beside the list of its patches, and what it is for it to stand for a list.
use Rattle.std.specs.Prelude.{◌≡◌, ℕ, List, ◌++◌, Option, Some, None}
use Rattle.disk_model.specs.declared.disk.Disk.{Ghosts}
use Rattle.log_journal.specs.StandsFor.{disk_of}
use Rattle.chain_core.specs.declared.chain.Patch.{Patch}
use Rattle.chain_core.specs.declared.chain.Entry.{Entry}
use Rattle.chain_core.specs.declared.answer.Decision.TheVariants.{Accept}
use Rattle.chain_core.specs.declared.answer.LogAnswer.{LogAnswer}
use Rattle.chain_core.specs.declared.answer.LogAnswer.TheVariants.{Accepted, DiskFault}
use Rattle.chain_core.specs.Chain.{IsBoundedChain}
use Rattle.chain_core.specs.Decision.{run_decision}
use Rattle.chain_core.specs.Patches.{patches_of}
use Rattle.chain_core.specs.Runs.{entries_of}
use Rattle.patch_log.specs.declared.tail.LogTail.{LogTail}
use Rattle.patch_log.specs.Ready.{ReadyView}
use Rattle.patch_log.specs.Run.{AppendedRun}
use Rattle.patch_log.specs.State.{LogView, JournalKeepsChain}

-- Its journal stands for the entries and the run in doubt. So each image that a crash may leave
-- holds them, with that run or without.
abbrev pub StandsForChain : {D : Type 0} {disks : Ghosts D} → LogTail D disks → List Entry → Type 0
StandsForChain tail entries =
    JournalKeepsChain tail.journal entries tail.doubt tail.number tail.limits

-- the log of a tail and of the entries for which it stands, with so many places ready
abbrev pub log_of : {D : Type 0} {disks : Ghosts D} → LogTail D disks → List Entry → ℕ → LogView D
log_of tail entries places = record {
  entries = entries;
  doubt = tail.doubt;
  number = tail.number;
  limits = tail.limits;
  spare = places;
  disk = disk_of tail.journal;
}

-- it stands for the entries, and these accept the run, the last patch of which gets this version
abbrev pub TakesRun : {D : Type 0} {disks : Ghosts D} → LogTail D disks → List Entry → List Patch
    → ℕ → Type 0
TakesRun tail entries run version =
    StandsForChain tail entries
    × (run_decision (patches_of entries) run tail.limits ≡ Accept version)

-- A write came to this: it stands for these entries, and the log of the entries as they were has
-- become the log of these, by one append.
pub record IsAppendOf {D : Type 0} (disks : Ghosts D) (old new : LogTail D disks)
    (entries left : List Entry) (ready : ReadyView) (answer : LogAnswer) : Type 0 where
  pub stands : StandsForChain new left
  pub kept : IsBoundedChain left
  pub appended : (spare places : ℕ)
      → AppendedRun disks (log_of old entries spare) (log_of new left places) ready.run ready.by
      answer

-- a run that was written goes behind the entries; where the disk failed they stay as they were
abbrev pub WroteRun : {D : Type 0} (disks : Ghosts D) → LogTail D disks → LogTail D disks
    → List Entry → ReadyView → ℕ → Option (List Patch) → Type 0
WroteRun disks old new entries ready version (Some run) =
    (run ≡ ready.run)
    × IsAppendOf disks old new entries (entries ++ entries_of ready.run ready.by) ready
    (Accepted version)
WroteRun disks old new entries ready version None =
    IsAppendOf disks old new entries entries ready DiskFault
