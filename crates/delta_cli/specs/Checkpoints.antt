-- What `checkpoint` does with the files of a zone, or why it stops.
use Rattle.std.specs.Prelude.{◌≡◌, ℕ, List, [], ◌∷◌, ◌++◌, codes}
use Rattle.std.specs.Fmt.{decimal}
use Rattle.delta_base.specs.Outside.{Rose}
use Rattle.paired_zone.specs.declared.answer.CheckEnd.{CheckEnd}
use Rattle.paired_zone.specs.declared.answer.CheckEnd.TheVariants as ends
use Rattle.zone_commands.specs.Checkpoints.{Checkpointed}
use Rattle.zone_commands.specs.Disks.{SameButZone, first_bytes, second_bytes}
use Rattle.command_tables.specs.Channels.{Channel, IsSilent, WritesText}
use Rattle.command_tables.specs.Views.{ShelfView}
use Rattle.command_tables.specs.declared.refusal.Refusal.{Refusal}
use Rattle.command_tables.specs.declared.refusal.Refusal.TheVariants as refusals
use Rattle.delta_cli.specs.Results.{StopsPrinting}
use Rattle.delta_cli.specs.Zones.{KeepsZone, StopsOpening}

-- the checkpoint is of so many patches
abbrev pub checkpoint_line : ℕ → List ℕ
checkpoint_line version = codes "checkpoint at version " ++ (decimal version ++ 10 ∷ [])

-- which refusal tells this end
abbrev pub TellsCheckEnd : CheckEnd → Refusal → Type 0
TellsCheckEnd end (refusals.CheckpointTooLarge shown limit) = end ≡ ends.TooLarge shown limit
TellsCheckEnd end refusals.DiskFailed = end ≡ ends.DiskFault
TellsCheckEnd end refusals.OutOfMemory = end ≡ ends.OutOfMemory
TellsCheckEnd end other = ⊥

module _ (dir : List ℕ) (tells : Type 0) where
  -- The files of the zone of a directory have become so, and every other file is as it was. A failed
  -- disk has raised its count.
  pub record ZoneCheckpointed (old new : ShelfView) (end : CheckEnd) : Type 0 where
    pub checkpointed : Checkpointed tells (first_bytes old.files dir) (second_bytes old.files dir)
        (first_bytes new.files dir) (second_bytes new.files dir) end
    pub others : tells → SameButZone dir old.files new.files
    pub disk : end ≡ ends.DiskFault → Rose old.faults new.faults

  -- the checkpoint is made, and the version is written
  abbrev pub WritesCheckpoint : ShelfView → ShelfView → Channel → Channel → Type 0
  WritesCheckpoint old new out out' =
      (version : ℕ) × ZoneCheckpointed old new (ends.Done version)
      × WritesText out out' (checkpoint_line version)

  -- Why no version was written: the zone could not be opened; or no checkpoint was made of it; or one
  -- was, and that isn't printed.
  pub data StopsCheckpoint (old new : ShelfView) (out out' : Channel) (refusal : Refusal)
      : Type 0 where
    not_opened : StopsOpening dir tells old new refusal → KeepsZone dir tells old.files new.files
        → IsSilent out out' → StopsCheckpoint old new out out' refusal
    not_made : (end : CheckEnd) → ZoneCheckpointed old new end → TellsCheckEnd end refusal
        → IsSilent out out' → StopsCheckpoint old new out out' refusal
    not_printed : (version : ℕ) → ZoneCheckpointed old new (ends.Done version)
        → StopsPrinting (checkpoint_line version) out out' refusal
        → StopsCheckpoint old new out out' refusal
