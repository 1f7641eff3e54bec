-- How contracts see a log, and what it keeps.
use Rattle.std.specs.Prelude.{◌≡◌, ℕ, ◌^◌, ◌<◌, List, Option}
use Rattle.disk_model.specs.declared.disk.Disk.{Ghosts}
use Rattle.log_journal.specs.declared.journal.Journal.{Journal}
use Rattle.log_journal.specs.StandsFor.{length_of, limit_of}
use Rattle.log_journal.specs.Writing.{StandsWith}
use Rattle.log_base.specs.declared.limits.LogLimits.{LogLimits}
use Rattle.chain_core.specs.declared.chain.Patch.{Patch}
use Rattle.chain_core.specs.declared.chain.Entry.{Entry}
use Rattle.chain_core.specs.Patches.{patches_of}
use Rattle.chain_core.specs.Runs.{AreWhole, file_length, runs_of}
use Rattle.chain_core.specs.Log.{LogPoint, up}
use Rattle.log_base.specs.OneMore.{with_one_more}
use Rattle.patch_log.specs.Log.{IsSoundLog, payloads_of, run_payload}

-- the entries and the run in doubt; what never changes; the places that are ready; and the disk
pub record LogView (D : Type 0) : Type 0 where
  pub entries : List Entry
  pub doubt : Option (List Patch)
  pub number : ℕ
  pub limits : LogLimits
  pub spare : ℕ
  pub disk : D

-- its chain
abbrev pub chain_of : {D : Type 0} → LogView D → List Patch
chain_of log = patches_of log.entries

-- its runs
abbrev pub runs_in : {D : Type 0} → LogView D → List (List Patch)
runs_in log = runs_of log.entries

-- its runs and the one in doubt
abbrev pub point_of : {D : Type 0} → LogView D → LogPoint (List Patch)
point_of log = up (runs_in log) log.doubt

-- the entries are whole runs, and the journal stands for these and the one in doubt
pub record JournalKeepsChain {D : Type 0} {disks : Ghosts D} (journal : Journal D disks)
    (entries : List Entry)
    (doubt : Option (List Patch)) (number : ℕ) (limits : LogLimits) : Type 0 where
  pub whole : AreWhole entries
  pub stands : StandsWith journal number (payloads_of (runs_of entries)) (run_payload doubt)
  pub without : IsSoundLog limits (runs_of entries)
  pub having : IsSoundLog limits (with_one_more (runs_of entries) doubt)
  pub length_is : length_of journal ≡ file_length (runs_of entries)
  pub limit_is : limit_of journal ≡ limits.bytes
  pub countable : limits.patches < 2 ^ 32
