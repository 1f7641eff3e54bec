use Rattle.std.proofs.Common.{◌≡◌, ◌+◌, [], ◌∷◌, ◌++◌, List, take, sym, ◌∙◌, ap, subst}
use Rattle.std.proofs.lemmas.List.{take_more, take_all}
use Rattle.std.proofs.lemmas.List.Sums.{fold-append}
use Rattle.log_base.specs.declared.limits.TheConstants.{LOG_LIMITS}
use Rattle.world_core.specs.declared.mirror.MirrorEvent.{MirrorEvent}
use Rattle.world_core.specs.Mirrors.{mirror_start, mirror_step, mirrored, IsMirrorWorldOf}
use Rattle.world_core.proofs.Mirroring.{Promises, mirror_promises}
use Rattle.world_core.proofs.mirror.mirror_run.Goals as goal

pub run_both-requires : goal.run_both-requires
run_both-requires c = (mirrored LOG_LIMITS (take c.loop-event.event-index c.as_slice-event-items.result.now), c.loop-event.invariant)

pub loop-event-preserved : goal.loop-event-preserved
loop-event-preserved c =
    let events = c.as_slice-event-items.result.now in
    let place = c.loop-event.event-index in
    let event = c.event-item.result in
    let taken : take (place + 1) events ≡ take place events ++ event ∷ [] = take_more events place event c.loop-event-test.true ∙ ap (λ (e : MirrorEvent). take place events ++ e ∷ []) (sym c.event-item.is) in
    let made : mirrored LOG_LIMITS (take (place + 1) events) ≡ mirror_step LOG_LIMITS (mirrored LOG_LIMITS (take place events)) event =
    ap (mirrored LOG_LIMITS) taken ∙ fold-append (mirror_step LOG_LIMITS) mirror_start (take place events) (event ∷ []) in
    subst (IsMirrorWorldOf c.in_ok-world.world) (sym made) (c.in_ok-world.ensures (mirrored LOG_LIMITS (take place events)) c.loop-event.invariant)

pub returns-clause-world : goal.returns-clause-world
returns-clause-world c =
    let events = c.as_slice-event-items.result.now in
    let whole : take c.loop-event.event-index events ≡ c.args.events.now.items = take_all c.loop-event.event-index events c.loop-event-test.false ∙ c.as_slice-event-items.ensures in
    subst (λ (es : List MirrorEvent). IsMirrorWorldOf c.loop-event.world (mirrored LOG_LIMITS es)) whole c.loop-event.invariant

pub returns-clause-promises : goal.returns-clause-promises
returns-clause-promises c =
    let events = c.as_slice-event-items.result.now in
    let so_far = take c.loop-event.event-index events in
    let whole : so_far ≡ c.args.events.now.items = take_all c.loop-event.event-index events c.loop-event-test.false ∙ c.as_slice-event-items.ensures in
    subst (λ (es : List MirrorEvent). Promises LOG_LIMITS es c.loop-event.world.log) whole (mirror_promises LOG_LIMITS so_far c.loop-event.world.log c.loop-event.invariant.log_is)
