-- Histories and the events that they are of.
use Rattle.std.proofs.Common.{◌≡◌, ℕ, List, [], ◌∷◌, ◌++◌, length, refl, ap}
use Rattle.std.specs.List.{AllByRecursion}
use Rattle.std.proofs.lemmas.List.{map-append, length-map}
use Rattle.registry_core.specs.declared.event.Event.{Event}
use Rattle.registry_core.specs.declared.event.Entry.{Entry}
use Rattle.registry_core.specs.Events.{events_of}
use Rattle.turn_cell.specs.declared.view.Known.{Known}
use Rattle.turn_cell.specs.Turns.{AllOf}
use Rattle.shared_registry.specs.History.{event_entry, event_history, known_events}

pub known_history : (entries : List Entry) → known_events (event_history entries) ≡ events_of entries
known_history [] = refl
known_history (entry ∷ entries) = ap (λ (events : List Event). entry.event ∷ events) (known_history entries)

pub history_length : (entries : List Entry) → length (event_history entries) ≡ length entries
history_length entries = length-map entries (λ (entry : Entry). event_entry entry.event entry.by)

pub history_push : (entries : List Entry) (event : Event) (by : ℕ) → event_history (entries ++ record { event = event; by = by } ∷ []) ≡ event_history entries ++ event_entry event by ∷ []
history_push entries event by = map-append (λ (entry : Entry). event_entry entry.event entry.by) entries (record { event = event; by = by } ∷ [])

-- entries brought by nobody are so in the history
pub by_nobody : (entries : List Entry) → AllByRecursion (λ (entry : Entry). entry.by ≡ 0) entries → AllOf (λ (known : Known Event). known.by ≡ 0) (event_history entries)
by_nobody [] all = tt
by_nobody (entry ∷ entries) all = (all.0, by_nobody entries all.1)
