-- A registry as the passes of its turn know it.
use Rattle.std.specs.Prelude.{ℕ, List, map, Option}
use Rattle.disk_model.specs.declared.disk.Disk.{Ghosts}
use Rattle.registry_core.specs.declared.event.Event.{Event}
use Rattle.registry_core.specs.declared.event.Entry.{Entry}
use Rattle.log_registry.specs.Stands.{StandsForRegistry}
use Rattle.log_registry.specs.State.{StateView, events_in}
use Rattle.shared_registry.specs.declared.value.RegistryFixed.{RegistryFixed}
use Rattle.turn_cell.specs.declared.chained.Chained.{Ghosts as Shared}
use Rattle.turn_cell.specs.declared.view.Known.{Known}
use Rattle.turn_cell.specs.Sights.{Sight}
use Rattle.turn_cell.specs.Knowing.{seen_of}

-- an event, and the number of the pass that brought it
abbrev pub event_entry : Event → ℕ → Known Event
event_entry event by = record { content = event; by = by }

abbrev pub event_history : List Entry → List (Known Event)
event_history entries = map (λ entry. event_entry entry.event entry.by) entries

-- what a pass of a registry shows
abbrev pub RegistrySight : Type 0
RegistrySight = Sight Event Event RegistryFixed

-- the events of a history
abbrev pub known_events : List (Known Event) → List Event
known_events history = map (λ known. known.content) history

-- the events that the pass has seen
abbrev pub events_seen : RegistrySight → List Event
events_seen p = known_events (seen_of p)

module _ {D : Type 0} where
  -- what never changes
  abbrev pub registry_fixed_of : (D → Option (List ℕ × ℕ)) → StateView D → RegistryFixed
  registry_fixed_of mark registry = record { slots = registry.slots; mark = mark registry.disk }

  -- A registry that may lie in a turn. If its disk tells its bytes, each image that a crash may
  -- leave holds the events, with the one in doubt or without.
  abbrev pub RegistryStandsInTurn : Ghosts D → StateView D → Type 0
  RegistryStandsInTurn disks registry =
      disks.tells
      → StandsForRegistry (disks.past registry.disk) registry.slots (events_in registry)
      registry.doubt

-- a registry as a value that passes share
abbrev pub shared_registry :
    {D : Type 0} → Ghosts D → Shared (StateView D) Event Event RegistryFixed
shared_registry disks = record {
  entries = λ registry. event_history registry.entries;
  fault_count = λ registry. disks.faults registry.disk;
  doubt = λ registry. registry.doubt;
  fixed = λ registry. registry_fixed_of disks.mark registry;
  fits = λ fixed history. Unit {0};
  stands = λ registry. RegistryStandsInTurn disks registry;
}
