-- A registry and its passes at any moment are as `close` would tell.
use Rattle.std.specs.Prelude.{List, Option}
use Rattle.atomic_table.specs.Table.{State}
use Rattle.disk_model.specs.declared.disk.Disk.{Ghosts}
use Rattle.registry_core.specs.declared.event.Event.{Event}
use Rattle.log_registry.specs.State.{StateView}
use Rattle.turn_cell.specs.declared.view.View.{View}
use Rattle.turn_cell.specs.Moments.{ArePassesAt, LiesInTurn}
use Rattle.turn_cell.specs.Turns.{HoldsRule}
use Rattle.turn_cell.specs.Sights.{Made}
use Rattle.turn_cell.specs.Sharing.{IsClosedOf}
use Rattle.shared_registry.specs.declared.value.RegistryFixed.{RegistryFixed}
use Rattle.shared_registry.specs.History.{RegistrySight, RegistryStandsInTurn, shared_registry}

module _ {D : Type 0} (disks : Ghosts D) where
  -- the cell of a registry
  abbrev pub RegistryCell : Type 0
  RegistryCell = State (Option (StateView D)) (View Event Event RegistryFixed)

  -- The cell of a shared registry at a moment, with this registry and these passes. The registry
  -- stands for its disk, as each value of its type does.
  pub record IsRegistryMoment (made : Made (StateView D)) (registry : StateView D)
      (passes : List RegistrySight) (s : RegistryCell) : Type 0 where
    pub rule : HoldsRule (shared_registry disks).entries (shared_registry disks).fault_count
        (shared_registry disks).doubt (shared_registry disks).fixed (shared_registry disks).fits
        made.origin made.seats s
    pub lies : LiesInTurn (shared_registry disks).entries (shared_registry disks).fault_count
        (shared_registry disks).doubt (shared_registry disks).fixed registry s
    pub stands : RegistryStandsInTurn disks registry
    pub passes_are : ArePassesAt s.views passes

  abbrev pub RegistriesAreClosedAtEachMoment : Type 0
  RegistriesAreClosedAtEachMoment =
      (made : Made (StateView D)) (registry : StateView D) (passes : List RegistrySight)
      (s : RegistryCell) → IsRegistryMoment made registry passes s
      → IsClosedOf (shared_registry disks) made passes registry
