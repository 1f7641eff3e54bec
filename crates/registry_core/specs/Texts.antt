-- How events are written.
use Rattle.std.specs.Prelude.{ℕ, ◌+◌, List, [], ◌∷◌, ◌++◌, length, sum_by, map}
use Rattle.std.specs.Fmt.{decimal}
use Rattle.delta_base.specs.Ids.{text_of}
use Rattle.log_base.specs.declared.limits.TheConstants.{EMPTY_JOURNAL, PAYLOAD_FRAME}
use Rattle.log_base.specs.declared.source_info.SourceInfo.{SourceInfo}
use Rattle.registry_core.specs.declared.event.Event.{Event}
use Rattle.registry_core.specs.declared.event.Event.TheVariants.{Created, Renamed, Removed}

-- `S`, a space and the number of slots in decimal
abbrev pub slots_payload : ℕ → List ℕ
slots_payload slots = 83 ∷ 32 ∷ decimal slots

-- `slot id name uri`
abbrev pub source_text : SourceInfo → List ℕ
source_text source = decimal source.slot ++ 32 ∷ (text_of source.id.0 ++ 32 ∷ (source.name
    ++ 32 ∷ source.uri))

-- `C slot id name uri`, `R slot name` and `D slot`
abbrev pub event_text : Event → List ℕ
event_text (Created source) = 67 ∷ 32 ∷ source_text source
event_text (Renamed slot name) = 82 ∷ 32 ∷ (decimal slot ++ 32 ∷ name)
event_text (Removed slot) = 68 ∷ 32 ∷ decimal slot

-- the payloads of a registry: `S n`, and the events
abbrev pub registry_payloads : ℕ → List Event → List (List ℕ)
registry_payloads slots events = slots_payload slots ∷ map event_text events

-- the length of a journal that holds the slots and the events
abbrev pub registry_length : ℕ → List Event → ℕ
registry_length slots events = EMPTY_JOURNAL + (PAYLOAD_FRAME + length (slots_payload slots))
    + sum_by (λ event. PAYLOAD_FRAME + length (event_text event)) events

-- the length of a journal with one more event
unfoldable pub length_with : ℕ → Event → ℕ
length_with bytes event = bytes + PAYLOAD_FRAME + length (event_text event)
