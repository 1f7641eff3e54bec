-- From what was due and what became of it to what a call made of the registry.
use Rattle.std.proofs.Common.{◌≡◌, inl, inr, ⊎_elim, ℕ, List, Option, Some, Result, Err, refl, sym, ◌∙◌, ap, subst}
use Rattle.disk_model.specs.declared.disk.Disk.{Ghosts}
use Rattle.delta_base.specs.declared.id.Id.{Id}
use Rattle.log_base.specs.declared.source_info.SourceInfo.{SourceInfo}
use Rattle.registry_core.specs.declared.event.Event.{Event}
use Rattle.registry_core.specs.declared.event.Event.TheVariants.{Created}
use Rattle.registry_core.specs.declared.answer.CreateAnswer.{CreateAnswer}
use Rattle.registry_core.specs.declared.answer.CreateAnswer.TheVariants.{Made, IdTaken, OutOfMemory}
use Rattle.registry_core.specs.declared.answer.ChangeAnswer.{ChangeAnswer}
use Rattle.registry_core.specs.declared.answer.ChangeAnswer.TheVariants.{Done, OutOfMemory as WantsMemory, NoSuchName, BadName, NameTaken, Full, DiskFault}
use Rattle.registry_core.specs.Answers.{Ending, told, wanting, event_in, end_of_create, end_of_change}
use Rattle.registry_core.specs.Checks.{StopsCreate, StopsChange}
use Rattle.registry_core.specs.Replies.{RegistryCall, RegistryReply, create, answered, changed, create_reply, removal, registry_reply, event_by, ending, MayEnd}
use Rattle.log_registry.specs.Stands.{StandsForRegistry}
use Rattle.log_registry.specs.State.{StateView, events_in}
use Rattle.log_registry.specs.declared.state.NotMade.{NotMade}
use Rattle.log_registry.specs.declared.state.NotMade.TheVariants.{OutOfMemory as NotMadeWant}
use Rattle.log_registry.specs.Making.{end_of_making}
use Rattle.log_registry.specs.Changes.{Changed, Called}
use Rattle.log_registry.proofs.Made.{unchanged, wanted}

-- what ends a change as told does so whichever event it would make
pub told_too : (event : SourceInfo → Event) (answer : ChangeAnswer) → end_of_change removal answer ≡ told → end_of_change event answer ≡ told
told_too event (Done source) is = absurd (cc)
told_too event NoSuchName is = refl
told_too event (BadName at) is = refl
told_too event (NameTaken id) is = refl
told_too event (Full what have limit) is = refl
told_too event WantsMemory is = absurd (cc)
told_too event DiskFault is = absurd (cc)

module _ {D : Type 0} (disks : Ghosts D) (registry : StateView D) (by : ℕ) (stands : disks.tells → StandsForRegistry (disks.past registry.disk) registry.slots (events_in registry) registry.doubt) where
  -- the reply that is due is told
  tells_due : (call : RegistryCall) (reply : RegistryReply) → ending call reply ≡ told → reply ≡ registry_reply registry.slots call (events_in registry) → Called disks registry registry call by reply
  tells_due call reply ends is = record {
    replies = subst (λ (e : Ending). MayEnd e registry.slots call (events_in registry) reply) (sym ends) is;
    changed = subst (λ (e : Ending). Changed disks registry registry (event_by registry.slots call (events_in registry)) by e) (sym ends)
        (unchanged disks registry (event_by registry.slots call (events_in registry)) by stands (ap event_in (sym (ap (ending call) is) ∙ ends)));
  }

  -- a source is created
  module _ (name uri : List ℕ) (id : Id) where
    abbrev due : CreateAnswer
    due = create_reply registry.slots (events_in registry) name uri id

    pub created_event : (source : SourceInfo) → due ≡ Made source → event_by registry.slots (create name uri id) (events_in registry) ≡ Some (Created source)
    created_event source is = ap (λ (answer : CreateAnswer). event_in (end_of_create answer)) is

    -- no memory was found for a source that was due
    pub create_wants : (source : SourceInfo) → due ≡ Made source → Called disks registry registry (create name uri id) by (answered OutOfMemory)
    create_wants source is = record {
      replies = inl (Created source, created_event source is);
      changed = wanted disks registry (event_by registry.slots (create name uri id) (events_in registry)) by stands;
    }

    -- answered before the disk was asked
    pub create_stops : (answer : CreateAnswer) → StopsCreate due answer → Called disks registry registry (create name uri id) by (answered answer)
    create_stops answer stops = ⊎_elim
        (⊎_elim
        (λ (refused : (answer ≡ due) × (end_of_create due ≡ told)). tells_due (create name uri id) (answered answer) (ap end_of_create refused.0 ∙ refused.1) (ap answered refused.0))
        (λ (want : (answer ≡ OutOfMemory) × ((shown : List ℕ) × (due ≡ IdTaken shown))).
        subst (λ (a : CreateAnswer). Called disks registry registry (create name uri id) by (answered a)) (sym want.0) (record {
          replies = inr (want.1.0, ap answered want.1.1);
          changed = wanted disks registry (event_by registry.slots (create name uri id) (events_in registry)) by stands;
        })))
        (λ (want : (answer ≡ OutOfMemory) × ((source : SourceInfo) × (due ≡ Made source))).
        subst (λ (a : CreateAnswer). Called disks registry registry (create name uri id) by (answered a)) (sym want.0) (create_wants want.1.0 want.1.1))
        stops

  -- the calls that find a source by its name, with the reply that is due
  module _ (call : RegistryCall) (event : SourceInfo → Event) (due : ChangeAnswer) (reply_is : registry_reply registry.slots call (events_in registry) ≡ changed due)
      (ending_is : (answer : ChangeAnswer) → ending call (changed answer) ≡ end_of_change event answer) where
    pub change_event : (source : SourceInfo) → due ≡ Done source → event_by registry.slots call (events_in registry) ≡ Some (event source)
    change_event source is = ap (λ (reply : RegistryReply). event_in (ending call reply)) reply_is ∙ ap event_in (ending_is due) ∙ ap (λ (answer : ChangeAnswer). event_in (end_of_change event answer)) is

    pub change_wants : (source : SourceInfo) → due ≡ Done source → Called disks registry registry call by (changed WantsMemory)
    change_wants source is = record {
      replies = subst (λ (e : Ending). MayEnd e registry.slots call (events_in registry) (changed WantsMemory)) (sym (ending_is WantsMemory)) (inl (event source, change_event source is));
      changed = subst (λ (e : Ending). Changed disks registry registry (event_by registry.slots call (events_in registry)) by e) (sym (ending_is WantsMemory))
          (wanted disks registry (event_by registry.slots call (events_in registry)) by stands);
    }

    pub change_stops : (answer : ChangeAnswer) → StopsChange due answer → Called disks registry registry call by (changed answer)
    change_stops answer stops = ⊎_elim
        (λ (refused : (answer ≡ due) × (end_of_change removal due ≡ told)).
        tells_due call (changed answer) (ending_is answer ∙ told_too event answer (ap (end_of_change removal) refused.0 ∙ refused.1)) (ap changed refused.0 ∙ sym reply_is))
        (λ (want : (answer ≡ WantsMemory) × ((source : SourceInfo) × (due ≡ Done source))).
        subst (λ (a : ChangeAnswer). Called disks registry registry call by (changed a)) (sym want.0) (change_wants want.1.0 want.1.1))
        stops

-- no memory was found for the event that was due
pub want_called : {D : Type 0} (disks : Ghosts D) (before after : StateView D) (call : RegistryCall) (by : ℕ) (reply : RegistryReply) (event : Event) → event_by before.slots call (events_in before) ≡ Some event
    → ending call reply ≡ wanting → (result : Result Unit NotMade) → result ≡ Err NotMadeWant → Changed disks before after (Some event) by (end_of_making event result) → Called disks before after call by reply
want_called disks before after call by reply event due ends result want changes = record {
  replies = subst (λ (e : Ending). MayEnd e before.slots call (events_in before) reply) (sym ends) (inl (event, due));
  changed = subst (λ (z : Option Event × Ending). Changed disks before after z.0 by z.1) (λ i. (sym due i, (ap (end_of_making event) want ∙ sym ends) i)) changes;
}
