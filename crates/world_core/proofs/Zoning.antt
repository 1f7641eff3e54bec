-- The zones of the code keep up with the events.
use Rattle.std.proofs.Common.{◌≡◌, ◌≢◌, ℕ, zero, suc, ◌+◌, ◌<◌, ◌≤◌, Bool, false, cond, eqb, List, [], ◌∷◌, ◌++◌, length, get_or, Option, Some, sym, ◌∙◌, ap, subst, arith}
use Rattle.std.specs.Prelude.{slice_get}
use Rattle.std.specs.List.{AllByRecursion}
use Rattle.std.proofs.Math.ListN.{set}
use Rattle.std.proofs.lemmas.Bool.{eq-eqb}
use Rattle.std.proofs.lemmas.Bool.Decides.{nat_tests}
use Rattle.std.proofs.lemmas.List.{length-map}
use Rattle.disk_model.specs.declared.plan.PlanDisk.{PlanDisk}
use Rattle.chain_core.specs.declared.chain.Patch.{Patch}
use Rattle.log_base.specs.declared.limits.LogLimits.{LogLimits}
use Rattle.chain_core.specs.declared.fate.Fate.{Fate}
use Rattle.chain_core.specs.Log.{up, down}
use Rattle.log_base.specs.OneMore.{with_one_more}
use Rattle.chain_core.specs.Stay.{stay}
use Rattle.patch_log.specs.Log.{bare}
use Rattle.zone_state.specs.Brief.{Brief, id_taken}
use Rattle.zone_state.specs.Zone.{ZoneView}
use Rattle.log_base.specs.declared.limits.TheConstants.{LOG_LIMITS}
use Rattle.world_core.specs.declared.event.WorldEvent.{WorldEvent}
use Rattle.world_core.specs.declared.event.WorldEvent.TheVariants.{ZoneStop}
use Rattle.world_core.specs.declared.zone.ZonePart.{ZonePart}
use Rattle.world_core.specs.declared.zone.ZonePart.TheVariants.{Up, Down}
use Rattle.world_core.specs.declared.message.Message.{Message}
use Rattle.world_core.specs.Parts.{RunsZone, KeepsTaken, IsZoneOf, AreZonesOf, IsSoundMessage}
use Rattle.world_core.specs.World.{ZonePoint, handed, changed_at, zone_after}

pub handed_next : (limits : LogLimits) (taken : List Patch) (doubt : Option Patch) (version : ℕ) (patch : Patch) (fate : Fate) → version ≡ length taken + 1 → handed limits (up taken doubt) version patch fate ≡ (stay limits (up taken doubt) patch fate).0
handed_next limits taken doubt version patch fate is = ap (λ (b : Bool). cond b (stay limits (up taken doubt) patch fate).0 (up taken doubt)) (eq-eqb version (length taken + 1) is)

pub handed_other : (limits : LogLimits) (taken : List Patch) (doubt : Option Patch) (version : ℕ) (patch : Patch) (fate : Fate) → version ≢ length taken + 1 → handed limits (up taken doubt) version patch fate ≡ up taken doubt
handed_other limits taken doubt version patch fate other =
    let differ : eqb version (length taken + 1) ≡ false = grind (arith, nat_tests) in
    ap (λ (b : Bool). cond b (stay limits (up taken doubt) patch fate).0 (up taken doubt)) differ

pub count_of : (zone : ZoneView PlanDisk) (taken : List Patch) (doubt : Option Patch) → RunsZone zone taken doubt → length zone.brief.ids ≡ length taken
count_of zone taken doubt runs = ap (λ (brief : Brief). length brief.ids) runs.stands.brief_is ∙ length-map runs.checked id_taken ∙ sym (length-map runs.checked bare) ∙ ap length runs.taken_is

-- the zone at a place is taken out, and another is put there
pub zones_set : (parts : List ZonePart) (points : List ZonePoint) (place : ℕ) (d blank new : ZonePart) (change : ZonePoint → ZonePoint) → AreZonesOf parts points → place < length parts
    → ((point : ZonePoint) → IsZoneOf (get_or parts place d) point → IsZoneOf new (change point)) → AreZonesOf (set (set parts place blank) place new) (changed_at place change points)
zones_set [] points place d blank new change are within keeps = absurd (omega (arith, within))
zones_set (part ∷ parts) [] place d blank new change are within keeps = absurd are
zones_set (part ∷ parts) (point ∷ points) zero d blank new change are within keeps = (keeps point are.0, are.1)
zones_set (part ∷ parts) (point ∷ points) (suc place) d blank new change are within keeps = (are.0, zones_set parts points place d blank new change are.1 (omega (arith, within)) keeps)

-- no zone is at a place behind the last one
pub zones_past : (parts : List ZonePart) (points : List ZonePoint) (place : ℕ) (change : ZonePoint → ZonePoint) → AreZonesOf parts points → length parts ≤ place → AreZonesOf parts (changed_at place change points)
zones_past [] [] place change are past = tt
zones_past [] (point ∷ points) place change are past = absurd are
zones_past (part ∷ parts) [] place change are past = absurd are
zones_past (part ∷ parts) (point ∷ points) zero change are past = absurd (omega (arith, past))
zones_past (part ∷ parts) (point ∷ points) (suc place) change are past = (are.0, zones_past parts points place change are.1 (omega (arith, past)))

pub zones_push : (parts : List ZonePart) (points : List ZonePoint) (part : ZonePart) (point : ZonePoint) → AreZonesOf parts points → IsZoneOf part point → AreZonesOf (parts ++ part ∷ []) (points ++ point ∷ [])
zones_push [] [] part point are is = (is, tt)
zones_push [] (first ∷ points) part point are is = absurd are
zones_push (first ∷ parts) [] part point are is = absurd are
zones_push (first ∷ parts) (top ∷ points) part point are is = (are.0, zones_push parts points part point are.1 is)

-- a zone that is up is one of a point that is up
pub stop_part : (part : ZonePart) (zone : ZoneView PlanDisk) (pool : List Message) (event : WorldEvent) (place : ℕ) (opened : Bool) (disk : PlanDisk) → part ≡ Up zone → event ≡ ZoneStop place opened
    → ((chain : List Patch) → (doubt : Option Patch) → RunsZone zone chain doubt → KeepsTaken disk (cond opened (with_one_more chain doubt) chain))
    → (point : ZonePoint) → IsZoneOf part point → IsZoneOf (Down disk) (zone_after LOG_LIMITS pool event point)
stop_part part zone pool event place opened disk same stops left point is =
    subst (λ (e : WorldEvent). IsZoneOf (Down disk) (zone_after LOG_LIMITS pool e point)) (sym stops) (by_point point (subst (λ (p : ZonePart). IsZoneOf p point) same is))
  where
    by_point : (p : ZonePoint) → IsZoneOf (Up zone) p → IsZoneOf (Down disk) (zone_after LOG_LIMITS pool (ZoneStop place opened) p)
    by_point (up chain doubt) runs = left chain doubt runs
    by_point (down chain) runs = absurd runs

-- a zone has a point
pub zone_at : (parts : List ZonePart) (points : List ZonePoint) (place : ℕ) (d : ZonePart) → AreZonesOf parts points → place < length parts → (point : ZonePoint) × IsZoneOf (get_or parts place d) point
zone_at [] points place d are within = absurd (omega (arith, within))
zone_at (part ∷ parts) [] place d are within = absurd are
zone_at (part ∷ parts) (point ∷ points) zero d are within = (point, are.0)
zone_at (part ∷ parts) (point ∷ points) (suc place) d are within = zone_at parts points place d are.1 (omega (arith, within))

pub sound_at : (pool : List Message) (place : ℕ) (message : Message) → AllByRecursion IsSoundMessage pool → slice_get pool place ≡ Some message → IsSoundMessage message
sound_at [] place message sound is = absurd (cc)
sound_at (first ∷ pool) zero message sound is = let same : first ≡ message = cc in subst IsSoundMessage same sound.0
sound_at (first ∷ pool) (suc place) message sound is = sound_at pool place message sound.1 is

pub sound_push : (pool : List Message) (message : Message) → AllByRecursion IsSoundMessage pool → IsSoundMessage message → AllByRecursion IsSoundMessage (pool ++ message ∷ [])
sound_push [] message sound is = (is, tt)
sound_push (first ∷ pool) message sound is = (sound.0, sound_push pool message sound.1 is)
