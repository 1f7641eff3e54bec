use Rattle.std.proofs.Common.{◌≡◌, Err, refl, ◌∙◌, ap, subst}
use Rattle.registry_core.specs.Answers.{end_of_change, event_in}
use Rattle.registry_core.specs.Events.{events_of}
use Rattle.registry_core.specs.declared.answer.ChangeAnswer.{ChangeAnswer}
use Rattle.registry_core.specs.declared.answer.ChangeAnswer.TheVariants.{Done}
use Rattle.registry_core.specs.Replies.{remove, remove_reply, removal}
use Rattle.log_registry.specs.declared.state.NotMade.{NotMade}
use Rattle.log_registry.specs.State.{StateView}
use Rattle.log_registry.proofs.States.{stands_for_registry}
use Rattle.log_registry.proofs.Answered.{change_stops, want_called}
use Rattle.log_registry.proofs.state.RegistryState.remove.Goals as goal

pub returns-in-Err : goal.returns-in-Err
returns-in-Err g c =
    let s = c.self.inside in
    rw (← c.self.view_is) (change_stops g.D.Disk _ c.args.by (stands_for_registry s.journal _ _ _ c.self.invariant) (remove c.args.name.now) removal (remove_reply s.registry.slots (events_of s.registry.entries) c.args.name.now) refl (λ answer. refl) c.in-Err.answer c.in-Err.ensures.stopped)

pub returns-in-Err-OutOfMemory : goal.returns-in-Err-OutOfMemory
returns-in-Err-OutOfMemory g c =
    let due = ap (λ (answer : ChangeAnswer). event_in (end_of_change removal answer)) (subst (λ (v : StateView g.row.D.Denot). remove_reply v.slots (events_of v.entries) c.args.name.now ≡ Done c.in-Ok.source) c.self.view_is c.in-Ok.ensures.done) in
    let want = c.in-Err-OutOfMemory.is ∙ ap (λ (fault : NotMade). Err fault) c.in-Err-OutOfMemory.field-0-is in
    want_called g.D.Disk _ _ _ _ _ (removal c.in-Ok.source) due refl c.make.result want c.make.ensures
