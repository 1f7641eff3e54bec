-- Which events a registry has, and which payloads are a registry's.
use Rattle.std.specs.Prelude.{◌≡◌, ◌⊎◌, ℕ, ◌+◌, ◌<◌, ◌≤◌, ◌^◌, List, []}
use Rattle.std.specs.Prelude.{◌∷◌, ◌++◌, length, take, map, None, IsUtf8}
use Rattle.log_base.specs.declared.source_info.SourceInfo.{SourceInfo}
use Rattle.registry_core.specs.declared.event.Event.{Event}
use Rattle.registry_core.specs.declared.event.Event.TheVariants.{Created, Renamed, Removed}
use Rattle.registry_core.specs.declared.event.Entry.{Entry}
use Rattle.registry_core.specs.declared.answer.CreateAnswer.TheVariants.{Made}
use Rattle.registry_core.specs.declared.answer.ChangeAnswer.TheVariants.{Done}
use Rattle.registry_core.specs.Names.{name_fault, uri_fault}
use Rattle.registry_core.specs.Texts.{registry_payloads}
use Rattle.registry_core.specs.Replies.{create_reply, rename_reply, remove_reply}

-- what happened, without who brought it
abbrev pub events_of : List Entry → List Event
events_of entries = map (λ entry. entry.event) entries

-- there are at most 16 slots
abbrev pub IsSlot : ℕ → Type 0
IsSlot slot = (1 ≤ slot) × (slot ≤ 16)

abbrev pub IsName : List ℕ → Type 0
IsName text = IsUtf8 text × (name_fault text ≡ None)

abbrev pub IsUri : List ℕ → Type 0
IsUri text = IsUtf8 text × (uri_fault text ≡ None)

-- a source by its parts; an id has 128 bits
pub record IsSource (source : SourceInfo) : Type 0 where
  pub slot : IsSlot source.slot
  pub id : source.id.0 < 2 ^ 128
  pub name : IsName source.name
  pub uri : IsUri source.uri

-- an event by its parts, whatever came before
abbrev pub IsSoundEvent : Event → Type 0
IsSoundEvent (Created source) = IsSource source
IsSoundEvent (Renamed slot name) = IsSlot slot × IsName name
IsSoundEvent (Removed slot) = IsSlot slot

-- some call over the events so far makes this event
abbrev pub IsMade : ℕ → List Event → Event → Type 0
IsMade slots events (Created source) =
    create_reply slots events source.name source.uri source.id ≡ Made source
IsMade slots events (Renamed slot name) = (old_name : List ℕ) × (source : SourceInfo)
    × (rename_reply slots events old_name name ≡ Done source) × (source.slot ≡ slot)
IsMade slots events (Removed slot) = (name : List ℕ) × (source : SourceInfo)
    × (remove_reply slots events name ≡ Done source) × (source.slot ≡ slot)

-- an event that may stand behind the others
abbrev pub IsNextEvent : ℕ → List Event → Event → Type 0
IsNextEvent slots events event = IsSoundEvent event × IsMade slots events event

-- each event may stand behind those before it
abbrev pub AreNext : ℕ → List Event → List Event → Type 0
AreNext slots before [] = Unit {0}
AreNext slots before (event ∷ events) = IsNextEvent slots before event
    × AreNext slots (before ++ event ∷ []) events

-- the events of a registry of so many slots
pub record IsRegistry (slots : ℕ) (events : List Event) : Type 0 where
  pub is_slot : IsSlot slots
  pub are_next : AreNext slots [] events

-- the payloads are those of a registry
abbrev pub IsRegistryFile : List (List ℕ) → ℕ → List Event → Type 0
IsRegistryFile payloads slots events = (registry_payloads slots events ≡ payloads)
    × IsRegistry slots events

-- The place, from 0, of the first payload that may not stand there, since it has no such form or no
-- call makes its event. It is 0 where there is no payload.
pub record BreaksAtEvent (payloads : List (List ℕ)) (place : ℕ) : Type 0 where
  pub sound_before : (place ≡ 0) ⊎ ((slots : ℕ) × (events : List Event)
      × IsRegistryFile (take place payloads) slots events)
  pub broken : (slots : ℕ) (events : List Event)
      → IsRegistryFile (take (place + 1) payloads) slots events → ⊥
