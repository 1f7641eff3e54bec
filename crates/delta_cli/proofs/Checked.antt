-- From what a check came to, to the end of the command.
use Rattle.std.proofs.Common.{◌≡◌, ◌+◌, ℕ, List, length, Result, Err}
use Rattle.std.proofs.KnownBytes.{Keeps-refl}
use Rattle.delta_base.specs.Outside.{Rose}
use Rattle.slot_checks.specs.Checks.{CheckStops}
use Rattle.slot_checks.specs.declared.fault.CheckFault.{CheckFault}
use Rattle.slot_checks.specs.declared.fault.CheckFault.TheVariants as checks
use Rattle.command_tables.specs.Channels.{Channel}
use Rattle.command_tables.specs.Refusals.{check_refusal}
use Rattle.delta_cli.specs.Tool.{KeepsSome, StopsCheck}
use Rattle.command_tables.specs.Views.{ShelfView}

module _ (dir : List ℕ) (tells : Type 0) (old new : ShelfView) where
  some : (fault : CheckFault) → (tells → CheckStops dir old.files new.files fault) → KeepsSome dir tells old.files new.files
  some fault stops told = let s = stops told in (s.file + 1, s.kept)

  -- an output to which nothing was written
  pub check_stops : {T : Type 0} (out : Channel) (result : Result T CheckFault) (fault : CheckFault) → result ≡ Err fault
      → (tells → CheckStops dir old.files new.files fault) → (result ≡ Err checks.Failed → Rose old.faults new.faults)
      → StopsCheck dir tells old new out out (check_refusal fault)
  check_stops out result checks.Failed is stops cause = (cause is, some checks.Failed stops, Keeps-refl out.bytes)
  check_stops out result checks.OutOfMemory is stops cause = (some checks.OutOfMemory stops, Keeps-refl out.bytes)
  check_stops out result (checks.Damaged file at) is stops cause = (stops, Keeps-refl out.bytes)
  check_stops out result (checks.OldFormat file) is stops cause = (stops, Keeps-refl out.bytes)
  check_stops out result (checks.WrongNumber file found) is stops cause = (stops, Keeps-refl out.bytes)
  check_stops out result (checks.OverLimit file length limit) is stops cause = (stops, Keeps-refl out.bytes)
  check_stops out result (checks.BrokenChain file version) is stops cause = (stops, Keeps-refl out.bytes)
  check_stops out result (checks.BrokenEvent place) is stops cause = (stops, Keeps-refl out.bytes)
  check_stops out result (checks.UpgradePending file) is stops cause = (stops, Keeps-refl out.bytes)
