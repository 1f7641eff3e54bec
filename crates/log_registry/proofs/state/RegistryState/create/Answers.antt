use Rattle.std.proofs.Common.{◌≡◌, Err, refl, ◌∙◌, ap, subst}
use Rattle.registry_core.specs.Answers.{end_of_create, event_in}
use Rattle.registry_core.specs.Events.{events_of}
use Rattle.registry_core.specs.Replies.{create_reply}
use Rattle.registry_core.specs.declared.answer.CreateAnswer.{CreateAnswer}
use Rattle.registry_core.specs.declared.answer.CreateAnswer.TheVariants.{Made}
use Rattle.registry_core.specs.declared.event.Event.TheVariants.{Created}
use Rattle.log_registry.specs.declared.state.NotMade.{NotMade}
use Rattle.log_registry.specs.State.{StateView}
use Rattle.log_registry.proofs.States.{stands_for_registry}
use Rattle.log_registry.proofs.Answered.{create_stops, create_wants, want_called}
use Rattle.log_registry.proofs.state.RegistryState.create.Goals as goal

pub returns-in-Err : goal.returns-in-Err
returns-in-Err g c = rw (← c.self.view_is) (create_stops g.D.Disk _ c.args.by (stands_for_registry c.self.inside.journal _ _ _ c.self.invariant) c.args.name.now c.args.uri.now c.args.id c.in-Err.answer c.in-Err.ensures.stopped)

pub returns-in_default : goal.returns-in_default
returns-in_default g c = rw (← c.self.view_is) (create_wants g.D.Disk _ c.args.by (stands_for_registry c.self.inside.journal _ _ _ c.self.invariant) c.args.name.now c.args.uri.now c.args.id c.in-Ok.source c.in-Ok.ensures.made)

pub returns-in-Err-OutOfMemory : goal.returns-in-Err-OutOfMemory
returns-in-Err-OutOfMemory g c =
    let due = ap (λ (answer : CreateAnswer). event_in (end_of_create answer)) (subst (λ (v : StateView g.row.D.Denot). create_reply v.slots (events_of v.entries) c.args.name.now c.args.uri.now c.args.id ≡ Made c.in-Ok.source) c.self.view_is c.in-Ok.ensures.made) in
    let want = c.in-Err-OutOfMemory.is ∙ ap (λ (fault : NotMade). Err fault) c.in-Err-OutOfMemory.field-0-is in
    want_called g.D.Disk _ _ _ _ _ (Created c.in-Ok.source) due refl c.make.result want (rw (c.in-Ok-copy.ensures) at c.make.ensures)
