-- What a zone took begins the log.
use Rattle.std.proofs.Common.{◌≡◌, ℕ, zero, suc, ◌+◌, Bool, true, false, cond, eqb, List, [], ◌∷◌, ◌++◌, map, length, Option, Some, None, refl, subst}
use Rattle.std.specs.Prelude.{fold, slice_get, Contains}
use Rattle.std.specs.List.{AllByRecursion}
use Rattle.std.proofs.lemmas.Bool.{eqb-true}
use Rattle.std.proofs.lemmas.Option.{slice_get_within, get_or_from_slice_get}
use Rattle.chain_core.specs.declared.chain.Patch.{Patch}
use Rattle.log_base.specs.declared.limits.LogLimits.{LogLimits}
use Rattle.chain_core.specs.declared.fate.Fate.{Fate}
use Rattle.chain_core.specs.Patches.{patch_at}
use Rattle.patch_log.specs.Log.{bare}
use Rattle.chain_core.specs.Runs.{patches_in}
use Rattle.chain_core.specs.Decision.{decision}
use Rattle.chain_core.specs.Log.{up, down}
use Rattle.chain_core.specs.Stay.{stay}
use Rattle.world_core.specs.declared.event.WorldEvent.{WorldEvent}
use Rattle.world_core.specs.declared.event.WorldEvent.TheVariants.{Append, Serve, Describe, Stop, Open, NewZone, Deliver, ZoneStop, ZoneOpen}
use Rattle.world_core.specs.declared.message.Message.{Message}
use Rattle.world_core.specs.declared.message.Message.TheVariants.{Accepted, Info, Item}
use Rattle.world_core.specs.World.{WorldPoint, ZonePoint, handed, delivered, changed_at, zone_after, zones_after, step, start, world, MayBeFound, BeginsLog}
use Rattle.world_core.proofs.Growing.{chain_of, GrowsTo, Each, grows_on, decided_each, stopped_each, opened_again_each, found_each, found_grows, next_front, sending_grows}
use Rattle.world_core.proofs.Worlds.{AreServed, none_served, step_serves}
use Rattle.world_core.specs.declared.zone.ZonePart.{ZonePart}
use Rattle.world_core.specs.declared.zone.ZonePart.TheVariants.{Up as ZoneUp, Down as ZoneDown}
use Rattle.world_core.specs.Parts.{IsZoneOf, AreZonesOf, EveryImageOfZone, HoldsTaken, IsZoneReplayed}
use Rattle.world_core.proofs.Taking.{zone_images, kept_found}

-- all that may be found of a zone begins the chain
abbrev Follows : List Patch → ZonePoint → Type 0
Follows chain zone = Each (λ taken. GrowsTo taken chain) zone

follows_on : (before after : List Patch) (zone : ZonePoint) → GrowsTo before after → Follows before zone → Follows after zone
follows_on before after (up taken doubt) grows follows = (grows_on taken before after follows.0 grows, grows_on _ before after follows.1 grows)
follows_on before after (down taken) grows follows = grows_on taken before after follows grows

all_on : (before after : List Patch) (zones : List ZonePoint) → GrowsTo before after → AllByRecursion (Follows before) zones → AllByRecursion (Follows after) zones
all_on before after [] grows all = tt
all_on before after (zone ∷ zones) grows all = (follows_on before after zone grows all.0, all_on before after zones grows all.1)

module _ (P : ZonePoint → Type 0) where
  all_changed : (place : ℕ) (change : ZonePoint → ZonePoint) (zones : List ZonePoint) → ((zone : ZonePoint) → P zone → P (change zone)) → AllByRecursion P zones → AllByRecursion P (changed_at place change zones)
  all_changed place change [] keeps all = tt
  all_changed zero change (zone ∷ zones) keeps all = (keeps zone all.0, all.1)
  all_changed (suc place) change (zone ∷ zones) keeps all = (all.0, all_changed place change zones keeps all.1)

  all_pushed : (zones : List ZonePoint) (zone : ZonePoint) → AllByRecursion P zones → P zone → AllByRecursion P (zones ++ zone ∷ [])
  all_pushed [] zone all has = (has, tt)
  all_pushed (first ∷ zones) zone all has = (all.0, all_pushed zones zone all.1 has)

  one_of_all : (zones : List ZonePoint) (place : ℕ) (zone : ZonePoint) → AllByRecursion P zones → slice_get zones place ≡ Some zone → P zone
  one_of_all [] place zone all is = absurd (cc)
  one_of_all (first ∷ zones) zero zone all is = let same : first ≡ zone = cc in subst P same all.0
  one_of_all (first ∷ zones) (suc place) zone all is = one_of_all zones place zone all.1 is

-- the next patch of the chain may be handed to a zone with any fate
handed_follows : (limits : LogLimits) (chain : List Patch) (version : ℕ) (patch : Patch) (fate : Fate) (zone : ZonePoint) → patch_at chain version ≡ Some patch → Follows chain zone → Follows chain (handed limits zone version patch fate)
handed_follows limits chain version patch fate (down taken) at follows = follows
handed_follows limits chain version patch fate (up taken doubt) at follows = by_test (eqb version (length taken + 1)) refl
  where
    by_test : (b : Bool) → eqb version (length taken + 1) ≡ b → Follows chain (cond b (stay limits (up taken doubt) patch fate).0 (up taken doubt))
    by_test true is = decided_each taken doubt patch (λ patches. GrowsTo patches chain) follows fate (decision taken patch limits) (λ v accepts. next_front taken chain version patch follows.0 (eqb-true version (length taken + 1) is) at)
    by_test false is = follows

pub contained : (pool : List Message) (place : ℕ) (message : Message) → slice_get pool place ≡ Some message → Contains pool message
contained pool place message is = (place, slice_get_within pool place message is, get_or_from_slice_get pool place message message is)

-- so may any message that was sent
delivered_follows : (limits : LogLimits) (point : WorldPoint) (place : ℕ) (fate : Fate) (zone : ZonePoint) (message : Option Message) → slice_get point.pool place ≡ message → AreServed point → Follows (chain_of point.log) zone
    → Follows (chain_of point.log) (delivered limits message fate zone)
delivered_follows limits point place fate zone None is served follows = follows
delivered_follows limits point place fate zone (Some (Accepted first version)) is served follows = follows
delivered_follows limits point place fate zone (Some (Info version head)) is served follows = follows
delivered_follows limits point place fate zone (Some (Item version patch)) is served follows =
    handed_follows limits (chain_of point.log) version patch fate zone (served version patch (contained point.pool place (Item version patch) is)) follows

abbrev AllFollow : WorldPoint → Type 0
AllFollow point = AllByRecursion (Follows (chain_of point.log)) point.zones

zones_follow_on : (limits : LogLimits) (point : WorldPoint) (event : WorldEvent) → AreServed point → AllFollow point → AllByRecursion (Follows (chain_of point.log)) (zones_after limits point.pool point.zones event)
zones_follow_on limits point NewZone served all = all_pushed (Follows (chain_of point.log)) point.zones (up [] None) all ((chain_of point.log, refl), (chain_of point.log, refl))
zones_follow_on limits point (Deliver message zone fate) served all =
    all_changed (Follows (chain_of point.log)) zone (zone_after limits point.pool (Deliver message zone fate)) point.zones (λ z follows. delivered_follows limits point message fate z (slice_get point.pool message) refl served follows) all
zones_follow_on limits point (ZoneStop zone opened) served all = all_changed (Follows (chain_of point.log)) zone (zone_after limits point.pool (ZoneStop zone opened)) point.zones (λ z follows. stopped_each (λ patches. GrowsTo patches (chain_of point.log)) z opened follows) all
zones_follow_on limits point (ZoneOpen zone) served all = all_changed (Follows (chain_of point.log)) zone (zone_after limits point.pool (ZoneOpen zone)) point.zones (λ z follows. opened_again_each (λ patches. GrowsTo patches (chain_of point.log)) z follows) all
zones_follow_on limits point (Append run fate) served all = all
zones_follow_on limits point (Serve version) served all = all
zones_follow_on limits point Describe served all = all
zones_follow_on limits point (Stop opened) served all = all
zones_follow_on limits point Open served all = all

fold_follows : (limits : LogLimits) (point : WorldPoint) (events : List WorldEvent) → AreServed point → AllFollow point → AllFollow (fold (step limits) point events)
fold_follows limits point [] served all = all
fold_follows limits point (event ∷ events) served all =
    let next = step limits point event in
    fold_follows limits next events (step_serves limits point event served)
    (all_on (chain_of point.log) (chain_of next.log) next.zones (sending_grows limits point.log event) (zones_follow_on limits point event served all))

pub begins_log : (point : WorldPoint) (taken : List Patch) → GrowsTo taken (chain_of point.log) → BeginsLog point.log taken
begins_log point taken grows found may = grows_on taken (chain_of point.log) (patches_in found) grows (found_grows point.log found may)

found_begins : (point : WorldPoint) (zone : ZonePoint) (taken : List Patch) → Follows (chain_of point.log) zone → MayBeFound zone taken → BeginsLog point.log taken
found_begins point zone taken follows may = begins_log point taken (found_each (λ patches. GrowsTo patches (chain_of point.log)) zone taken follows may)

always_all : (limits : LogLimits) (events : List WorldEvent) → AllFollow (world limits events)
always_all limits events = fold_follows limits start events none_served tt

pub always_follow : (limits : LogLimits) (events : List WorldEvent) (place : ℕ) (zone : ZonePoint) (taken : List Patch) → slice_get (world limits events).zones place ≡ Some zone → MayBeFound zone taken
    → BeginsLog (world limits events).log taken
always_follow limits events place zone taken is may =
    let point = world limits events in
    found_begins point zone taken (one_of_all (Follows (chain_of point.log)) point.zones place zone (always_all limits events) is) may

-- ---- in each image

weaker_zone_images : (part : ZonePart) (P Q : List ℕ → Type 0) → ((image : List ℕ) → P image → Q image) → EveryImageOfZone part P → EveryImageOfZone part Q
weaker_zone_images (ZoneUp zone) P Q implies each = λ image left. implies image (each image left)
weaker_zone_images (ZoneDown disk) P Q implies each = λ image left. implies image (each image left)

zones_begin : (point : WorldPoint) (parts : List ZonePart) (zones : List ZonePoint) → AllByRecursion (Follows (chain_of point.log)) zones → AreZonesOf parts zones
    → AllByRecursion (λ part. EveryImageOfZone part (HoldsTaken (BeginsLog point.log))) parts
zones_begin point [] zones all are = tt
zones_begin point (part ∷ parts) [] all are = absurd are
zones_begin point (part ∷ parts) (zone ∷ zones) all are = (
  weaker_zone_images part (HoldsTaken (MayBeFound zone)) (HoldsTaken (BeginsLog point.log))
      (λ image holds. (holds.0, (holds.1.0, found_begins point zone (map bare holds.0) all.0 holds.1.1), holds.2)) (zone_images part zone are.0),
  zones_begin point parts zones all.1 are.1,
)

pub zones_promise : (limits : LogLimits) (events : List WorldEvent) (parts : List ZonePart) → AreZonesOf parts (world limits events).zones
    → AllByRecursion (λ part. EveryImageOfZone part (HoldsTaken (BeginsLog (world limits events).log))) parts
zones_promise limits events parts are = zones_begin (world limits events) parts (world limits events).zones (always_all limits events) are

-- ---- datasets

zone_replayed : (point : WorldPoint) (part : ZonePart) (zone : ZonePoint) → Follows (chain_of point.log) zone → IsZoneOf part zone → IsZoneReplayed point.log part
zone_replayed point part zone follows is brief kept =
    let found = kept_found part zone brief is kept in
    (found.0, found.1, found_begins point zone (map bare found.0) follows found.2, found.3)

zones_replayed : (point : WorldPoint) (parts : List ZonePart) (zones : List ZonePoint) → AllByRecursion (Follows (chain_of point.log)) zones → AreZonesOf parts zones → AllByRecursion (IsZoneReplayed point.log) parts
zones_replayed point [] zones all are = tt
zones_replayed point (part ∷ parts) [] all are = absurd are
zones_replayed point (part ∷ parts) (zone ∷ zones) all are = (zone_replayed point part zone all.0 are.0, zones_replayed point parts zones all.1 are.1)

pub zones_replay : (limits : LogLimits) (events : List WorldEvent) (parts : List ZonePart) → AreZonesOf parts (world limits events).zones → AllByRecursion (IsZoneReplayed (world limits events).log) parts
zones_replay limits events parts are = zones_replayed (world limits events) parts (world limits events).zones (always_all limits events) are
