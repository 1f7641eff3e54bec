-- What a registry keeps beside its events.
use Rattle.std.specs.Prelude.{◌≡◌, ℕ, ◌<◌, ◌≤◌, List, [], ◌∷◌}
use Rattle.log_base.specs.declared.source_info.SourceInfo.{SourceInfo}
use Rattle.registry_core.specs.declared.event.Event.{Event}
use Rattle.registry_core.specs.declared.event.Entry.{Entry}
use Rattle.registry_core.specs.Sources.{sources, used, after_event}
use Rattle.registry_core.specs.Texts.{registry_length, length_with}
use Rattle.log_base.specs.declared.limits.TheConstants.{REGISTRY_LIMIT}
use Rattle.registry_core.specs.Events.{IsRegistry}

-- its slots and its entries, and how many more can be added without asking for memory
pub record RegistryView : Type 0 where
  pub slots : ℕ
  pub entries : List Entry
  pub spare : ℕ

-- their slots rise, from behind this one up to that one
abbrev pub SlotsRise : ℕ → ℕ → List SourceInfo → Type 0
SlotsRise low high [] = low ≤ high
SlotsRise low high (source ∷ living) = (low < source.slot) × SlotsRise source.slot high living

-- the sources that live, how many were made, and the length of the journal
pub record IsTable (slots : ℕ) (events : List Event) (living : List SourceInfo)
    (made bytes : ℕ) : Type 0 where
  pub living_is : living ≡ sources events
  pub made_is : made ≡ used events
  pub bytes_is : bytes ≡ registry_length slots events
  pub few : made ≤ slots
  pub short : bytes ≤ REGISTRY_LIMIT
  pub rise : SlotsRise 0 made living
  pub registry : IsRegistry slots events

-- an event, the sources that live after it, and the length of the journal with it
pub record ReadyEvent : Type 0 where
  pub event : Event
  pub living : List SourceInfo
  pub longer : ℕ

-- all memory was taken for an event behind these
pub record IsReadyFor (slots : ℕ) (events : List Event) (event : Event)
    (ready : ReadyEvent) : Type 0 where
  pub event_is : ready.event ≡ event
  pub living_is : ready.living ≡ after_event (sources events) event
  pub longer_is : ready.longer ≡ length_with (registry_length slots events) event
