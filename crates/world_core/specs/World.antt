-- A world as events make it: one log, its zones, and all messages that were ever sent.
use Rattle.std.specs.Prelude.{◌≡◌, ◌⊎◌, ℕ, zero, suc, ◌+◌, ◌-◌, ◌==◌, ◌<◌, if◌then◌else◌}
use Rattle.std.specs.Prelude.{List, [], ◌∷◌, ◌++◌, length, fold, slice_get, Contains}
use Rattle.std.specs.Prelude.{Option, Some, None}
use Rattle.std.specs.Option.{option_map}
use Rattle.log_base.specs.declared.limits.LogLimits.{LogLimits}
use Rattle.chain_core.specs.declared.chain.Patch.{Patch}
use Rattle.chain_core.specs.declared.fate.Fate.{Fate}
use Rattle.chain_core.specs.declared.answer.LogAnswer.{LogAnswer}
use Rattle.chain_core.specs.declared.answer.LogAnswer.TheVariants.{AcceptedRun}
use Rattle.chain_core.specs.Links.{IsChain}
use Rattle.chain_core.specs.Patches.{links_of, patch_at, last_id}
use Rattle.chain_core.specs.Runs.{IsRun, patches_in}
use Rattle.chain_core.specs.Log.{LogPoint, up, down, stopped, opened_again}
use Rattle.log_base.specs.OneMore.{with_one_more}
use Rattle.chain_core.specs.Stay.{Outcome, run_stay, stay}
use Rattle.chain_core.specs.Replies.{as_run}
use Rattle.world_core.specs.declared.event.WorldEvent.{WorldEvent}
use Rattle.world_core.specs.declared.event.WorldEvent.TheVariants.{Append, Serve, Describe}
use Rattle.world_core.specs.declared.event.WorldEvent.TheVariants.{Stop, Open, NewZone}
use Rattle.world_core.specs.declared.event.WorldEvent.TheVariants.{Deliver, ZoneStop, ZoneOpen}
use Rattle.world_core.specs.declared.message.Message.{Message}
use Rattle.world_core.specs.declared.message.Message.TheVariants.{Accepted, Info, Item}

-- A zone is a point as a log is, but that it takes patches one by one: those that it took are its
-- chain.
abbrev pub ZonePoint : Type 0
ZonePoint = LogPoint Patch

-- a log, its zones, and the messages in the order in which they were sent
pub record WorldPoint : Type 0 where
  pub log : LogPoint (List Patch)
  pub zones : List ZonePoint
  pub pool : List Message

-- what an append sends by its answer: only that its run was accepted
abbrev pub accepted_message : Option LogAnswer → Option Message
accepted_message (Some (AcceptedRun first version)) = Some (Accepted first version)
accepted_message other = None

-- what is sent to who asks for a version
abbrev pub served : ℕ → Option Patch → Option Message
served version None = None
served version (Some patch) = Some (Item version patch)

-- a log and the message that was sent, if one was
abbrev pub Sending : Type 0
Sending = LogPoint (List Patch) × Option Message

-- an append of a run of so many patches, and what it sends
abbrev pub appended : ℕ → Outcome (List Patch) → Sending
appended count (point, answer) = (point, accepted_message (option_map (as_run count) answer))

-- what an event makes of a log that is up
abbrev pub while_up : LogLimits → List (List Patch) → Option (List Patch) → WorldEvent → Sending
while_up limits runs doubt (Append run fate) =
    appended (length run) (run_stay limits (up runs doubt) run fate)
while_up limits runs doubt (Serve version) =
    (up runs doubt, served version (patch_at (patches_in runs) version))
while_up limits runs doubt Describe =
    (up runs doubt, Some (Info (length (patches_in runs)) (last_id (patches_in runs))))
while_up limits runs doubt (Stop opened) = (stopped (up runs doubt) opened, None)
while_up limits runs doubt other = (up runs doubt, None)

-- of one that is down: it can be opened again
abbrev pub while_down : List (List Patch) → WorldEvent → Sending
while_down runs Open = (opened_again (down runs), None)
while_down runs other = (down runs, None)

abbrev pub sending : LogLimits → LogPoint (List Patch) → WorldEvent → Sending
sending limits (up runs doubt) event = while_up limits runs doubt event
sending limits (down runs) event = while_down runs event

-- the pool with one message more, if one was sent
abbrev pub with_message : List Message → Option Message → List Message
with_message pool None = pool
with_message pool (Some message) = pool ++ message ∷ []

-- A zone takes the patch behind its own as a log does: where it names the head, its id is new and
-- there is room.
abbrev pub handed : LogLimits → ZonePoint → ℕ → Patch → Fate → ZonePoint
handed limits (up taken doubt) version patch fate =
    if version == length taken + 1 then (stay limits (up taken doubt) patch fate).0
    else up taken doubt
handed limits (down taken) version patch fate = down taken

-- a message that reaches a zone; only an item is taken
abbrev pub delivered : LogLimits → Option Message → Fate → ZonePoint → ZonePoint
delivered limits (Some (Item version patch)) fate zone = handed limits zone version patch fate
delivered limits other fate zone = zone

-- the zones with the one at this place changed, if there is one
abbrev pub changed_at : ℕ → (ZonePoint → ZonePoint) → List ZonePoint → List ZonePoint
changed_at place change [] = []
changed_at zero change (zone ∷ zones) = change zone ∷ zones
changed_at (suc place) change (zone ∷ zones) = zone ∷ changed_at place change zones

-- what an event makes of the zone that it is about, by the messages that were sent before it
abbrev pub zone_after : LogLimits → List Message → WorldEvent → ZonePoint → ZonePoint
zone_after limits pool (Deliver message zone fate) point =
    delivered limits (slice_get pool message) fate point
zone_after limits pool (ZoneStop zone opened) point = stopped point opened
zone_after limits pool (ZoneOpen zone) point = opened_again point
zone_after limits pool other point = point

abbrev pub zones_after : LogLimits → List Message → List ZonePoint → WorldEvent → List ZonePoint
zones_after limits pool zones NewZone = zones ++ up [] None ∷ []
zones_after limits pool zones (Deliver message zone fate) =
    changed_at zone (zone_after limits pool (Deliver message zone fate)) zones
zones_after limits pool zones (ZoneStop zone opened) =
    changed_at zone (zone_after limits pool (ZoneStop zone opened)) zones
zones_after limits pool zones (ZoneOpen zone) =
    changed_at zone (zone_after limits pool (ZoneOpen zone)) zones
zones_after limits pool zones other = zones

-- an event that doesn't fit the world changes nothing
abbrev pub step : LogLimits → WorldPoint → WorldEvent → WorldPoint
step limits world event =
    let sent = sending limits world.log event in
    record {
      log = sent.0;
      zones = zones_after limits world.pool world.zones event;
      pool = with_message world.pool sent.1;
    }

-- an empty log that is up, no zone and no message
abbrev pub start : WorldPoint
start = record { log = up [] None; zones = []; pool = [] }

-- the world that these events make
abbrev pub world : LogLimits → List WorldEvent → WorldPoint
world limits events = fold (step limits) start events

-- what a log or a zone has, and what opening it finds after a crash now
abbrev pub MayBeFound : {T : Type 0} → LogPoint T → List T → Type 0
MayBeFound (up taken doubt) found = (found ≡ taken) ⊎ (found ≡ with_one_more taken doubt)
MayBeFound (down taken) found = found ≡ taken

-- what an event appends is a run
abbrev pub BringsRun : WorldEvent → Type 0
BringsRun (Append run fate) = IsRun run
BringsRun other = Unit {0}

-- an append was told that its run is accepted, with the versions from `first` to `version`
pub record WasAccepted (limits : LogLimits) (events : List WorldEvent) (run : List Patch)
    (first version : ℕ) : Type 0 where
  pub before : List WorldEvent
  pub fate : Fate
  pub after : List WorldEvent
  pub parts : events ≡ before ++ Append run fate ∷ after
  pub told : (sending limits (world limits before).log (Append run fate)).1
      ≡ Some (Accepted first version)

-- a message of these events has the patch of this version
abbrev pub WasServed : LogLimits → List WorldEvent → Patch → ℕ → Type 0
WasServed limits events patch version = Contains (world limits events).pool (Item version patch)

-- the patches of a run stand in a chain, with the versions from `first` to `version`
pub record StandsAt (chain run : List Patch) (first version : ℕ) : Type 0 where
  pub last : version ≡ first + (length run - 1)
  pub patches_at : (place : ℕ) → place < length run
      → patch_at chain (first + place) ≡ slice_get run place

-- the patches are a chain, and what was accepted or served stands in it at its version
pub record KeepsPromises (limits : LogLimits) (events : List WorldEvent)
    (found : List (List Patch)) : Type 0 where
  pub chain : IsChain (links_of (patches_in found))
  pub accepted : (run : List Patch) (first version : ℕ)
      → WasAccepted limits events run first version
      → StandsAt (patches_in found) run first version
  pub served : (patch : Patch) (version : ℕ) → WasServed limits events patch version
      → patch_at (patches_in found) version ≡ Some patch

-- the one list begins the other
abbrev pub IsFrontOf : List Patch → List Patch → Type 0
IsFrontOf front whole = (more : List Patch) × (whole ≡ front ++ more)

-- the patches begin whatever the log has, and whatever a crash leaves of it
abbrev pub BeginsLog : LogPoint (List Patch) → List Patch → Type 0
BeginsLog log taken =
    (found : List (List Patch)) → MayBeFound log found → IsFrontOf taken (patches_in found)
