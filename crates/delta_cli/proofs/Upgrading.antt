-- From what an upgrade came to, to the end of the command.
use Rattle.std.proofs.Common.{◌≡◌, inl, inr, Result, Err}
use Rattle.std.proofs.KnownBytes.{Keeps-refl}
use Rattle.delta_base.specs.Outside.{Rose}
use Rattle.slot_files.specs.Files.{Files}
use Rattle.slot_checks.specs.declared.fault.CheckFault.{CheckFault}
use Rattle.slot_checks.specs.declared.fault.CheckFault.TheVariants as checks
use Rattle.journal_upgrade.specs.declared.upgrade.Upgraded.{Upgraded}
use Rattle.command_tables.specs.Channels.{Channel}
use Rattle.command_tables.specs.Refusals.{check_refusal}
use Rattle.command_tables.specs.Views.{ShelfView}
use Rattle.command_tables.specs.declared.refusal.Refusal.{Refusal}
use Rattle.command_tables.specs.declared.refusal.Refusal.TheVariants as refusals
use Rattle.delta_cli.specs.Results.{StopsPrinting}
use Rattle.delta_cli.specs.Upgrades.{StopsUpgrading, upgraded_line}

module _ (tells : Type 0) (Done : Files → Files → Upgraded → Type 0) (Stopped : Files → Files → CheckFault → Type 0) (old new : ShelfView) where
  -- an output to which nothing was written
  pub upgrade_stops : {T : Type 0} (out : Channel) (result : Result T CheckFault) (fault : CheckFault) → result ≡ Err fault
      → (tells → Stopped old.files new.files fault) → (result ≡ Err checks.Failed → Rose old.faults new.faults)
      → StopsUpgrading tells Done Stopped old new out out (check_refusal fault)
  upgrade_stops out result checks.Failed is stops cause = (cause is, stops, Keeps-refl out.bytes)
  upgrade_stops out result checks.OutOfMemory is stops cause = (inl stops, Keeps-refl out.bytes)
  upgrade_stops out result (checks.Damaged file at) is stops cause = (stops, Keeps-refl out.bytes)
  upgrade_stops out result (checks.OldFormat file) is stops cause = (stops, Keeps-refl out.bytes)
  upgrade_stops out result (checks.WrongNumber file found) is stops cause = (stops, Keeps-refl out.bytes)
  upgrade_stops out result (checks.OverLimit file length limit) is stops cause = (stops, Keeps-refl out.bytes)
  upgrade_stops out result (checks.BrokenChain file version) is stops cause = (stops, Keeps-refl out.bytes)
  upgrade_stops out result (checks.BrokenEvent place) is stops cause = (stops, Keeps-refl out.bytes)
  upgrade_stops out result (checks.UpgradePending file) is stops cause = (stops, Keeps-refl out.bytes)

  -- what was done isn't printed
  pub printing_stops : (done : Upgraded) → (tells → Done old.files new.files done) → (out out' : Channel) (refusal : Refusal)
      → StopsPrinting (upgraded_line done) out out' refusal → StopsUpgrading tells Done Stopped old new out out' refusal
  printing_stops done is out out' refusals.OutputFailed stops = (stops.0, (done, is, stops.1))
  printing_stops done is out out' refusals.OutOfMemory stops = (inr (done, is), stops)
  printing_stops done is out out' other stops = absurd stops
