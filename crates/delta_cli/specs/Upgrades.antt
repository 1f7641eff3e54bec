-- What the upgrade of files prints, or why it doesn't.
use Rattle.std.specs.Prelude.{◌⊎◌, ℕ, List, [], ◌∷◌, ◌++◌, codes}
use Rattle.std.specs.Fmt.{decimal}
use Rattle.delta_base.specs.Outside.{Rose}
use Rattle.slot_files.specs.Files.{Files}
use Rattle.slot_checks.specs.declared.fault.CheckFault.{CheckFault}
use Rattle.slot_checks.specs.declared.fault.CheckFault.TheVariants as checks
use Rattle.journal_upgrade.specs.declared.upgrade.Upgraded.{Upgraded}
use Rattle.journal_upgrade.specs.declared.upgrade.Upgraded.TheVariants as upgraded
use Rattle.command_tables.specs.Channels.{Channel, ChannelFailed, IsSilent, WritesFront, WritesText}
use Rattle.command_tables.specs.Views.{ShelfView}
use Rattle.command_tables.specs.declared.refusal.Refusal.{Refusal}
use Rattle.command_tables.specs.declared.refusal.Refusal.TheVariants as refusals

-- so many files had the old form; or an upgrade that was broken off was finished
abbrev pub upgraded_line : Upgraded → List ℕ
upgraded_line (upgraded.Files count) =
    codes "upgraded " ++ (decimal count ++ (codes " files" ++ 10 ∷ []))
upgraded_line upgraded.Finished = codes "upgrade finished\n"

module _ (tells : Type 0) (Done : Files → Files → Upgraded → Type 0) where
  -- the files were upgraded, and what was done is written
  abbrev pub UpgradesFiles : ShelfView → ShelfView → Channel → Channel → Type 0
  UpgradesFiles old new out out' = (done : Upgraded)
      × (tells → Done old.files new.files done) × WritesText out out' (upgraded_line done)

  -- Why nothing was written, or not all: the files were not upgraded, which stops so; or they were,
  -- and that isn't printed.
  abbrev pub StopsUpgrading : (Files → Files → CheckFault → Type 0) → ShelfView → ShelfView
      → Channel → Channel → Refusal → Type 0
  StopsUpgrading Stopped old new out out' (refusals.File fault) =
      (tells → Stopped old.files new.files fault) × IsSilent out out'
  StopsUpgrading Stopped old new out out' refusals.DiskFailed = Rose old.faults new.faults
      × (tells → Stopped old.files new.files checks.Failed) × IsSilent out out'
  StopsUpgrading Stopped old new out out' refusals.OutOfMemory =
      ((tells → Stopped old.files new.files checks.OutOfMemory)
      ⊎ ((done : Upgraded) × (tells → Done old.files new.files done))) × IsSilent out out'
  StopsUpgrading Stopped old new out out' refusals.OutputFailed = ChannelFailed out out'
      × ((done : Upgraded) × (tells → Done old.files new.files done)
      × WritesFront out out' (upgraded_line done))
  StopsUpgrading Stopped old new out out' other = ⊥
