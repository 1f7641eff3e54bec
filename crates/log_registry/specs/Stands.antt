-- What the disk of a registry stands for.
use Rattle.std.specs.Prelude.{ℕ, List, Option, Some, None}
use Rattle.std.specs.Option.{option_map}
use Rattle.log_base.specs.OneMore.{with_one_more}
use Rattle.disk_model.specs.Past.{Past, EveryImage}
use Rattle.log_journal.specs.File.{Holds}
use Rattle.log_journal.specs.Journal.{HoldsWithOrWithout}
use Rattle.registry_core.specs.declared.event.Event.{Event}
use Rattle.registry_core.specs.Events.{IsRegistry}
use Rattle.registry_core.specs.Texts.{event_text, registry_payloads}

-- the payload of an event in doubt
abbrev pub event_payload : Option Event → Option (List ℕ)
event_payload doubt = option_map event_text doubt

-- an image holds the slots and the events, or these and the one in doubt
abbrev pub MayHoldEvents : ℕ → List Event → Option Event → List ℕ → Type 0
MayHoldEvents slots events None image = Holds image 0 (registry_payloads slots events)
MayHoldEvents slots events (Some doubt) image =
    HoldsWithOrWithout 0 (registry_payloads slots events) (event_text doubt) image

-- a disk stands for a registry that runs, with its events and the one in doubt
pub record StandsForRegistry (past : Past) (slots : ℕ) (events : List Event)
    (doubt : Option Event) : Type 0 where
  pub each : EveryImage past (MayHoldEvents slots events doubt)
  pub without : IsRegistry slots events
  pub having : IsRegistry slots (with_one_more events doubt)
