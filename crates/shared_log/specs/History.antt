-- A log as its passes know it.
use Rattle.std.specs.Prelude.{◌≡◌, ℕ, ◌<◌, ◌^◌, List, length, map, Option}
use Rattle.disk_model.specs.declared.disk.Disk.{Ghosts}
use Rattle.chain_core.specs.declared.chain.Patch.{Patch}
use Rattle.chain_core.specs.declared.chain.Entry.{Entry}
use Rattle.chain_core.specs.Runs.{AreWhole, StandWhole, runs_of}
use Rattle.patch_log.specs.Log.{StandsForLog}
use Rattle.patch_log.specs.State.{LogView}
use Rattle.shared_log.specs.declared.value.LogFixed.{LogFixed}
use Rattle.shared_log.specs.declared.value.Placed.{Placed}
use Rattle.turn_cell.specs.declared.chained.Chained.{Ghosts as Shared}
use Rattle.turn_cell.specs.declared.view.Known.{Known}
use Rattle.turn_cell.specs.Knowing.{seen_of}
use Rattle.turn_cell.specs.Sights.{Sight}

-- a patch with how many of its run stand behind it, and the number of the pass that brought it
abbrev pub entry_of : Entry → Known Placed
entry_of entry = record {
  content = record { patch = entry.patch; rest = entry.rest };
  by = entry.by;
}

abbrev pub history_of : List Entry → List (Known Placed)
history_of entries = map entry_of entries

-- the entries of a history
abbrev pub entries_known : List (Known Placed) → List Entry
entries_known history =
    map (λ known. record {
      patch = known.content.patch;
      by = known.by;
      rest = known.content.rest;
    }) history

-- what a pass of a log shows
abbrev pub LogSight : Type 0
LogSight = Sight Placed (List Patch) LogFixed

-- the patches of a history
abbrev pub patches_known : List (Known Placed) → List Patch
patches_known history = map (λ known. known.content.patch) history

-- each run of a history stands whole, at places that follow each other
abbrev pub KnowsWhole : List (Known Placed) → Type 0
KnowsWhole history =
    StandWhole (λ (known : Known Placed). known.by) (λ (known : Known Placed). known.content.rest)
    history

-- in what the pass has seen each run stands whole
abbrev pub SeesWhole : LogSight → Type 0
SeesWhole p = KnowsWhole (seen_of p)

-- what a history must be to lie in a turn
abbrev pub MayBeSeen : List (Known Placed) → Type 0
MayBeSeen history = (length history < 2 ^ 32) × KnowsWhole history

module _ {D : Type 0} where
  -- what never changes
  abbrev pub fixed_of : (D → Option (List ℕ × ℕ)) → LogView D → LogFixed
  fixed_of mark log = record { number = log.number; limits = log.limits; mark = mark log.disk }

  -- A log that may lie in a turn, whose runs stand whole. If its disk tells its bytes, each image
  -- that a crash may leave holds the runs, with the one in doubt or without.
  pub record StandsInTurn (disks : Ghosts D) (log : LogView D) : Type 0 where
    pub few : length log.entries < 2 ^ 32
    pub whole : AreWhole log.entries
    pub stands :
        disks.tells
        → StandsForLog (disks.past log.disk) log.number log.limits
        (runs_of log.entries) log.doubt

  -- neither the entries nor the run in doubt changed
  abbrev pub IsKeptBy : LogView D → LogView D → Type 0
  IsKeptBy before after = (after.entries ≡ before.entries) × (after.doubt ≡ before.doubt)

-- a log as a value that passes share
abbrev pub shared_log : {D : Type 0} → Ghosts D → Shared (LogView D) Placed (List Patch) LogFixed
shared_log disks = record {
  entries = λ log. history_of log.entries;
  fault_count = λ log. disks.faults log.disk;
  doubt = λ log. log.doubt;
  fixed = λ log. fixed_of disks.mark log;
  fits = λ fixed history. MayBeSeen history;
  stands = λ log. StandsInTurn disks log;
}
