use Rattle.std.proofs.Common.{sym, ◌∙◌, subst}
use Rattle.registry_core.specs.declared.event.Event.{Event}
use Rattle.registry_core.specs.Events.{events_of, IsMade}
use Rattle.registry_core.specs.Tables.{RegistryView, IsReadyFor}
use Rattle.registry_core.proofs.Tables.{ready_itself}
use Rattle.registry_core.proofs.OneText.{one_event}
use Rattle.registry_core.proofs.Replied.{no_truth}
use Rattle.registry_core.proofs.opening.add_next.Goals as goal

pub returns-then-not-makes-clause-none : goal.returns-then-not-makes-clause-none
returns-then-not-makes-clause-none c fault event next is =
    let read = c.in_ok-event.ensures.ok in
    let same = one_event event c.in_ok-event.event next.0 read.1 (is ∙ sym read.0) in
    no_truth (c.if-not-makes.ensures.1 (subst (λ (e : Event). IsMade c.args.registry.now.slots (events_of c.args.registry.now.entries) e) same next.1))

pub push-requires-clause-ready : goal.push-requires-clause-ready
push-requires-clause-ready c =
    let registry = c.args.registry.now in
    let ready = c.in_ok-ready.ready in
    let itself = ready_itself registry.slots (events_of registry.entries) c.in_ok-event.event ready c.in_ok-ready.ensures.ready in
    subst (λ (v : RegistryView). IsReadyFor v.slots (events_of v.entries) ready.event ready) (sym c.in_ok-ready.ensures.same) itself
