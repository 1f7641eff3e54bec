-- The laws.
use Rattle.std.specs.Prelude.{◌≡◌, ℕ, List}
use Rattle.disk_model.specs.declared.disk.Disk.{Ghosts}
use Rattle.log_base.specs.declared.source_info.SourceInfo.{SourceInfo}
use Rattle.registry_core.specs.declared.event.Event.{Event}
use Rattle.registry_core.specs.declared.event.Event.TheVariants.{Created}
use Rattle.registry_core.specs.Events.{IsRegistry}
use Rattle.turn_cell.specs.Turns.{IsIn}
use Rattle.registry_deployment.specs.History.{RegistryRun, AreRegistryRuns, IsRegistryRun}
use Rattle.registry_deployment.specs.History.{IsRegistryIn, registry_left}
use Rattle.registry_deployment.specs.Promise.{KeepsRegistryPromise}

-- in the events of a registry no slot is given to two sources, whatever became of the first
abbrev pub SlotsAreNeverUsedAgain : Type 0
SlotsAreNeverUsedAgain =
    (slots : ℕ) (events : List Event) → IsRegistry slots events → (one other : SourceInfo)
    → IsIn (Created one) events → IsIn (Created other) events → one.slot ≡ other.slot
    → one ≡ other

module _ {D : Type 0} (disks : Ghosts D) where
  -- whatever registry is found at the end of its life keeps its promise
  abbrev pub RegistriesKeepTheirPromise : Type 0
  RegistriesKeepTheirPromise =
      (image : List ℕ) (runs : List (RegistryRun D)) (slots : ℕ) (found : List Event)
      → disks.tells → AreRegistryRuns disks image runs
      → IsRegistryIn (registry_left image runs) slots found
      → KeepsRegistryPromise image runs slots found

  -- whatever a run leaves is a registry of its slots
  abbrev pub StopsLeaveARegistry : Type 0
  StopsLeaveARegistry =
      (image : List ℕ) (run : RegistryRun D) → disks.tells → IsRegistryRun disks image run
      → (found : List Event) × IsRegistryIn run.image run.made.origin.slots found
