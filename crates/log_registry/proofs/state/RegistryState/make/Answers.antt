use Rattle.std.proofs.Common.{◌≡◌, [], ◌∷◌, ◌++◌, Ok, Err, ◌∙◌, ap}
use Rattle.log_base.specs.declared.phase.Phase.{Phase}
use Rattle.log_base.specs.declared.phase.Phase.TheVariants.{Settling, Body, Gate}
use Rattle.log_journal.specs.Payload.{payload_of}
use Rattle.registry_core.proofs.Tables.{events_of-push}
use Rattle.registry_core.specs.Events.{events_of}
use Rattle.registry_core.specs.Tables.{RegistryView}
use Rattle.registry_core.specs.Texts.{registry_payloads}
use Rattle.log_registry.specs.Stands.{event_payload}
use Rattle.log_registry.proofs.Made.{made_as, wanted}
use Rattle.log_registry.proofs.States.{room, kept_done, kept_in_doubt, stands_for_registry}
use Rattle.log_registry.proofs.state.RegistryState.make.Goals as goal

pub returns-in_default : goal.returns-in_default
returns-in_default g c = rw (← c.self.view_is, c.in_default.ensures.same) (wanted g.D.Disk _ _ c.args.by (stands_for_registry c.self.inside.journal _ _ _ c.self.invariant))

pub write-requires-clause-room : goal.write-requires-clause-room
write-requires-clause-room g c =
    let s = c.self.inside in
    room s.journal s.journal _ _ s.doubt c.self.invariant c.args.event (rw (← c.self.view_is) at c.requires.next) (payload_of c.in-Ok.block) c.in-Ok.ensures.block

pub invariant_of-self-in-Ok-write : goal.invariant_of-self-in-Ok-write
invariant_of-self-in-Ok-write g c =
    let s = c.self.inside in
    let events = events_of s.registry.entries in
    let entries_are : c.push.new.self.entries ≡ s.registry.entries ++ record { event = c.args.event; by = c.args.by } ∷ [] =
    c.push.ensures.entries ∙ (λ i. (c.in-Ok.ensures.same i).entries ++ record { event = c.in-Ok.ensures.ready.event_is i; by = c.args.by } ∷ []) in
    let behind : events_of c.push.new.self.entries ≡ events ++ c.args.event ∷ [] = ap events_of entries_are ∙ events_of-push s.registry.entries (record { event = c.args.event; by = c.args.by }) in
    let slots_are : c.push.new.self.slots ≡ s.registry.slots = c.push.ensures.slots ∙ ap (λ (v : RegistryView). v.slots) c.in-Ok.ensures.same in
    rw (behind, slots_are) (kept_done s.journal c.write.new.journal _ _ s.doubt c.self.invariant c.args.event (rw (← c.self.view_is) at c.requires.next) (payload_of c.in-Ok.block) c.in-Ok.ensures.block
    (c.in-Ok-write.ensures.stands 0 (registry_payloads s.registry.slots events) (event_payload s.doubt) c.self.invariant.stands) c.in-Ok-write.ensures.length c.in-Ok-write.ensures.limit)

pub invariant_of-self-in-Err-Gate : goal.invariant_of-self-in-Err-Gate
invariant_of-self-in-Err-Gate g c =
    let s = c.self.inside in
    let w = c.write.ensures in
    let failed : c.write.result ≡ Err Gate = c.in-Err-Gate.is ∙ ap (λ (phase : Phase). Err phase) c.in-Err-Gate.field-0-is in
    rw (c.into_event.ensures, c.in-Ok.ensures.ready.event_is, c.in-Ok.ensures.same) (kept_in_doubt s.journal c.write.new.journal _ _ s.doubt c.self.invariant c.args.event (rw (← c.self.view_is) at c.requires.next) (payload_of c.in-Ok.block) c.in-Ok.ensures.block
    (rw failed at (w.stands 0 (registry_payloads s.registry.slots (events_of s.registry.entries)) (event_payload s.doubt) c.self.invariant.stands)) (rw failed at w.length) w.limit)

pub returns-in-Ok-write : goal.returns-in-Ok-write
returns-in-Ok-write g c =
    let s = c.self.inside in
    let w = c.write.ensures in
    rw (← c.self.view_is, c.push.ensures.entries, c.push.ensures.slots, c.in-Ok.ensures.ready.event_is, c.in-Ok.ensures.same) (made_as g.D.Disk s.journal c.write.new.journal _ _ s.doubt c.self.invariant c.args.event c.args.by (payload_of c.in-Ok.block) c.in-Ok.ensures.block
    c.write.result (Ok c.in-Ok-write.field-0) c.in-Ok-write.is (w.written 0 _ (event_payload s.doubt) c.self.invariant.stands) w.went)

pub returns-in-Err-Settling : goal.returns-in-Err-Settling
returns-in-Err-Settling g c =
    let s = c.self.inside in
    let w = c.write.ensures in
    rw (← c.self.view_is, c.in-Ok.ensures.same) (made_as g.D.Disk s.journal c.write.new.journal _ _ s.doubt c.self.invariant c.args.event c.args.by (payload_of c.in-Ok.block) c.in-Ok.ensures.block
    c.write.result (Err Settling) (c.in-Err-Settling.is ∙ ap (λ (phase : Phase). Err phase) c.in-Err-Settling.field-0-is) (w.written 0 _ (event_payload s.doubt) c.self.invariant.stands) w.went)

pub returns-in-Err-Body : goal.returns-in-Err-Body
returns-in-Err-Body g c =
    let s = c.self.inside in
    let w = c.write.ensures in
    rw (← c.self.view_is, c.in-Ok.ensures.same) (made_as g.D.Disk s.journal c.write.new.journal _ _ s.doubt c.self.invariant c.args.event c.args.by (payload_of c.in-Ok.block) c.in-Ok.ensures.block
    c.write.result (Err Body) (c.in-Err-Body.is ∙ ap (λ (phase : Phase). Err phase) c.in-Err-Body.field-0-is) (w.written 0 _ (event_payload s.doubt) c.self.invariant.stands) w.went)

pub returns : goal.returns
returns g c =
    let s = c.self.inside in
    let w = c.write.ensures in
    rw (← c.self.view_is, c.into_event.ensures, c.in-Ok.ensures.ready.event_is, c.in-Ok.ensures.same) (made_as g.D.Disk s.journal c.write.new.journal _ _ s.doubt c.self.invariant c.args.event c.args.by (payload_of c.in-Ok.block) c.in-Ok.ensures.block
    c.write.result (Err Gate) (c.in-Err-Gate.is ∙ ap (λ (phase : Phase). Err phase) c.in-Err-Gate.field-0-is) (w.written 0 _ (event_payload s.doubt) c.self.invariant.stands) w.went)
