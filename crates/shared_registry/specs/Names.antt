-- The sources that a pass keeps, which live after all that it has seen.
use Rattle.std.specs.Prelude.{◌≡◌, length, Option, Some, None}
use Rattle.std.specs.List.{AllByRecursion}
use Rattle.registry_core.specs.Sources.{sources, HasSlot}
use Rattle.turn_cell.specs.Knowing.{seen_of}
use Rattle.shared_registry.specs.declared.names.Names.{Names}
use Rattle.shared_registry.specs.declared.value.RegistryFixed.{RegistryFixed}
use Rattle.shared_registry.specs.History.{RegistrySight, events_seen}

-- how many entries the pass had seen, and the sources that live after them
pub record AreNamesOf (names : Names) (p : RegistrySight) : Type 0 where
  pub count_is : names.count ≡ length (seen_of p)
  pub living_is : names.living.items ≡ sources (events_seen p)
  pub slots : (f : RegistryFixed) → p.view.fixed ≡ Some f
      → AllByRecursion (HasSlot f.slots) names.living.items

abbrev pub KeepsNames : Option Names → RegistrySight → Type 0
KeepsNames None p = Unit {0}
KeepsNames (Some names) p = AreNamesOf names p

-- it keeps them
abbrev pub HasNames : Option Names → RegistrySight → Type 0
HasNames None p = ⊥
HasNames (Some names) p = AreNamesOf names p
