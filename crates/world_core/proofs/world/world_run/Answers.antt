use Rattle.std.proofs.Common.{◌≡◌, ◌+◌, [], ◌∷◌, ◌++◌, List, take, sym, ◌∙◌, ap, subst}
use Rattle.std.proofs.lemmas.List.{take_more, take_all}
use Rattle.std.proofs.lemmas.List.Sums.{fold-append}
use Rattle.log_base.specs.declared.limits.TheConstants.{LOG_LIMITS}
use Rattle.world_core.specs.declared.event.WorldEvent.{WorldEvent}
use Rattle.world_core.specs.World.{start, step, world, KeepsPromises, BeginsLog}
use Rattle.std.specs.List.{AllByRecursion}
use Rattle.world_core.specs.declared.zone.ZonePart.{ZonePart}
use Rattle.world_core.specs.Parts.{IsWorldOf, EveryImageOf, EveryImageOfZone, HoldsRuns, HoldsTaken, IsZoneReplayed}
use Rattle.world_core.proofs.Running.{log_promises}
use Rattle.world_core.proofs.Following.{zones_promise, zones_replay}
use Rattle.world_core.proofs.world.world_run.Goals as goal

pub run-requires : goal.run-requires
run-requires c = (world LOG_LIMITS (take c.loop-event.event-index c.as_slice-event-items.result.now), c.loop-event.invariant)

pub loop-event-preserved : goal.loop-event-preserved
loop-event-preserved c =
    let events = c.as_slice-event-items.result.now in
    let place = c.loop-event.event-index in
    let event = c.event-item.result in
    let taken : take (place + 1) events ≡ take place events ++ event ∷ [] = take_more events place event c.loop-event-test.true ∙ ap (λ (e : WorldEvent). take place events ++ e ∷ []) (sym c.event-item.is) in
    let made : world LOG_LIMITS (take (place + 1) events) ≡ step LOG_LIMITS (world LOG_LIMITS (take place events)) event =
    ap (world LOG_LIMITS) taken ∙ fold-append (step LOG_LIMITS) start (take place events) (event ∷ []) in
    subst (IsWorldOf c.in_ok-world-2.world) (sym made) (c.in_ok-world-2.ensures (world LOG_LIMITS (take place events)) c.loop-event.invariant)

pub returns-clause-world : goal.returns-clause-world
returns-clause-world c =
    let events = c.as_slice-event-items.result.now in
    let whole : take c.loop-event.event-index events ≡ c.args.events.now.items = take_all c.loop-event.event-index events c.loop-event-test.false ∙ c.as_slice-event-items.ensures in
    subst (λ (es : List WorldEvent). IsWorldOf c.loop-event.world (world LOG_LIMITS es)) whole c.loop-event.invariant

pub returns-clause-promises : goal.returns-clause-promises
returns-clause-promises c =
    let events = c.as_slice-event-items.result.now in
    let so_far = take c.loop-event.event-index events in
    let whole : so_far ≡ c.args.events.now.items = take_all c.loop-event.event-index events c.loop-event-test.false ∙ c.as_slice-event-items.ensures in
    subst (λ (es : List WorldEvent). EveryImageOf c.loop-event.world.log (HoldsRuns (KeepsPromises LOG_LIMITS es))) whole (log_promises LOG_LIMITS so_far c.loop-event.world.log c.loop-event.invariant.log_is)

pub returns-clause-zone_promises : goal.returns-clause-zone_promises
returns-clause-zone_promises c =
    let events = c.as_slice-event-items.result.now in
    let so_far = take c.loop-event.event-index events in
    let whole : so_far ≡ c.args.events.now.items = take_all c.loop-event.event-index events c.loop-event-test.false ∙ c.as_slice-event-items.ensures in
    let are = c.loop-event.invariant.zones_are in
    subst (λ (es : List WorldEvent). AllByRecursion (λ (zone : ZonePart). EveryImageOfZone zone (HoldsTaken (BeginsLog (world LOG_LIMITS es).log))) c.loop-event.world.zones.items) whole (zones_promise LOG_LIMITS so_far c.loop-event.world.zones.items are)

pub returns-clause-replays : goal.returns-clause-replays
returns-clause-replays c =
    let events = c.as_slice-event-items.result.now in
    let so_far = take c.loop-event.event-index events in
    let whole : so_far ≡ c.args.events.now.items = take_all c.loop-event.event-index events c.loop-event-test.false ∙ c.as_slice-event-items.ensures in
    subst (λ (es : List WorldEvent). AllByRecursion (IsZoneReplayed (world LOG_LIMITS es).log) c.loop-event.world.zones.items) whole (zones_replay LOG_LIMITS so_far c.loop-event.world.zones.items c.loop-event.invariant.zones_are)
