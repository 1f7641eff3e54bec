-- What a pass is told whose call may change the registry, over the registry as it found and left it.
use Rattle.std.proofs.Common.{◌≡◌, ◌⊎◌, ℕ, ◌+◌, List, [], ◌∷◌, ◌++◌, length, Bool, true, false, Option, Some, None, sym, refl, ap, ◌∙◌, subst, ⊎_elim, inl, inr}
use Rattle.std.proofs.lemmas.List.{append-nil}
use Rattle.delta_base.specs.Outside.{Rose}
use Rattle.log_base.specs.declared.phase.Phase.{Phase}
use Rattle.log_base.specs.declared.phase.Phase.TheVariants.{Settling, Body, Gate}
use Rattle.disk_model.specs.declared.disk.Disk.{Ghosts}
use Rattle.registry_core.specs.declared.event.Event.{Event}
use Rattle.registry_core.specs.Answers.{Ending, made, told, failed, wanting}
use Rattle.registry_core.specs.Replies.{RegistryCall, RegistryReply, registry_reply, event_by, ending, MayEnd}
use Rattle.log_registry.specs.State.{StateView, events_in}
use Rattle.log_registry.specs.Changes.{Called, Stays, IsUntouched}
use Rattle.log_journal.specs.Writing.{doubt_left}
use Rattle.turn_cell.specs.Turns.{own_count, Adds}
use Rattle.turn_cell.specs.Sights.{Made, Taken, IsGrownBy}
use Rattle.turn_cell.specs.Knowing.{SeesOn, IsQuiet, pass_number, own_faults_of}
use Rattle.turn_cell.specs.Sharing.{IsPassOf, EntersTurn, LeavesTurn}
use Rattle.turn_cell.proofs.Knowing.{Entered, quiet_on, same_mine, brought, adds_same, adds_one, rises}
use Rattle.turn_cell.proofs.Staying as stay
use Rattle.shared_registry.specs.declared.value.RegistryFixed.{RegistryFixed}
use Rattle.shared_registry.specs.History.{RegistrySight, event_entry, event_history, known_events, events_seen, registry_fixed_of, shared_registry}
use Rattle.shared_registry.specs.Legal.{IsRegistryTold, MayLeaveEvent}
use Rattle.shared_registry.specs.Stays.{DoesOnRegistry, StayOnRegistry, HasRegistryStay, CalledOnRegistry, reaches_disk}
use Rattle.shared_registry.proofs.Histories.{known_history, history_push}

-- ---- what a call leaves, by how it ends

module _ {D : Type 0} (due : Option Event) (by : ℕ) (before after : StateView D) where
  same_history : after.entries ≡ before.entries → IsGrownBy by (event_history before.entries) (event_history after.entries)
  same_history same = ([], ap event_history same ∙ sym (append-nil (event_history before.entries)), tt)

  -- it adds entries of its own number
  grows : (ending : Ending) → Stays ending due by before after → IsGrownBy by (event_history before.entries) (event_history after.entries)
  grows (made event) s = (event_entry event by ∷ [], ap event_history s.2 ∙ history_push before.entries event by, (refl, tt))
  grows told s = same_history s.1.0
  grows failed s = same_history s.2
  grows wanting s = same_history s.0

  untouched : (ending : Ending) → reaches_disk ending ≡ false → Stays ending due by before after → IsUntouched before after
  untouched (made event) none s = absurd (let e : true ≡ false = none in cc)
  untouched told none s = s.1
  untouched failed none s = absurd (let e : true ≡ false = none in cc)
  untouched wanting none s = s

module _ {D : Type 0} (disks : Ghosts D) (before after : StateView D) (call : RegistryCall) (by : ℕ) (reply : RegistryReply) (called : Called disks before after call by reply) where
  abbrev due_of : Option Event
  due_of = event_by before.slots call (events_in before)

  pub grows_of : IsGrownBy by (event_history before.entries) (event_history after.entries)
  grows_of = grows due_of by before after (ending call reply) called.changed.stays

  pub fixed_still : registry_fixed_of disks.mark after ≡ registry_fixed_of disks.mark before
  fixed_still = λ i. record { slots = called.changed.slots i; mark = called.changed.went.mark i }

  -- what the turn publishes is as it was
  pub as_found : reaches_disk (ending call reply) ≡ false → (event_history after.entries ≡ event_history before.entries) × (disks.faults after.disk ≡ disks.faults before.disk) × (after.doubt ≡ before.doubt) × (registry_fixed_of disks.mark after ≡ registry_fixed_of disks.mark before)
  as_found none = let kept = untouched due_of by before after (ending call reply) none called.changed.stays in (ap event_history kept.0, ap (λ (d : D). disks.faults d) kept.2, kept.1, fixed_still)

-- a call over the value that was found, by the number of the pass
pub in_turn : {D : Type 0} (disks : Ghosts D) (value was after : StateView D) (call : RegistryCall) (by number : ℕ) (reply : RegistryReply) → by ≡ number → value ≡ was → Called disks value after call by reply → Called disks was after call number reply
in_turn {D} disks value was after call by number reply one found called = subst (λ (z : ℕ × StateView D). Called disks z.1 after call z.0 reply) (λ i. (one i, found i)) called

-- ---- one stay

module _ {D : Type 0} (disks : Ghosts D) (origin : Made (StateView D)) (p m q : RegistrySight) (held back : Taken Event Event RegistryFixed (StateView D)) (enters : EntersTurn (shared_registry disks) p held m) (leaves : LeavesTurn (shared_registry disks) m back q)
    (same_was : back.was ≡ held.was) (of : IsPassOf (shared_registry disks) origin p) (call : RegistryCall) (reply : RegistryReply) (called : Called disks held.was back.value call (pass_number p) reply) (changed : Bool) (reaches : changed ≡ reaches_disk (ending call reply))
    (quiet : changed ≡ false → IsQuiet m q) (counts : changed ≡ true → own_faults_of q ≡ own_count (own_faults_of m) (disks.faults back.was.disk) (disks.faults back.value.disk)) where
  abbrev was : StateView D
  was = held.was

  abbrev after : StateView D
  after = back.value

  came : stay.Finds (shared_registry disks) p was m
  came = stay.finds (shared_registry disks) p m held enters

  e : Entered p m
  e = came.entered

  fixed : registry_fixed_of disks.mark was ≡ registry_fixed_of disks.mark origin.origin
  fixed = stay.fixed_found (shared_registry disks) p m q was back came leaves same_was origin of

  slots_same : was.slots ≡ origin.origin.slots
  slots_same = ap (λ (f : RegistryFixed). f.slots) fixed

  on : SeesOn p q
  on = let grown = grows_of disks was after call (pass_number p) reply called in
      stay.sees (shared_registry disks) p m q was back came leaves same_was (grown.0, sym grown.1)

  doubt : Adds was.doubt after.doubt m.view.failed q.view.failed
  doubt = subst (λ (w : StateView D). Adds w.doubt after.doubt m.view.failed q.view.failed) same_was leaves.failed

  -- what the events and the slots give, where none was added
  here : {A : Type 0} (f : ℕ → List Event → A) → after.entries ≡ was.entries → f was.slots (events_in was) ≡ f origin.origin.slots (events_seen q)
  here f none = let events : events_in was ≡ events_seen q = sym (ap known_events (leaves.sees ∙ ap event_history none) ∙ known_history was.entries) in λ i. f (slots_same i) (events i)

  replied : (end : Ending) → after.entries ≡ was.entries → MayEnd end was.slots call (events_in was) reply → MayEnd end origin.origin.slots call (events_seen q) reply
  replied end none may = subst (λ (z : ℕ × List Event). MayEnd end z.0 call z.1 reply) (here (λ slots events. (slots, events)) none) may

  left_by : (phase : Phase) (event : Event) → doubt_left (Some phase) was.doubt event ≡ was.doubt ⊎ (doubt_left (Some phase) was.doubt event ≡ None) ⊎ (doubt_left (Some phase) was.doubt event ≡ Some event)
  left_by Settling event = inl refl
  left_by Body event = inr (inl refl)
  left_by Gate event = inr (inr refl)

  may_fail : (event : Event) → (after.doubt ≡ was.doubt) ⊎ (after.doubt ≡ None) ⊎ (after.doubt ≡ Some event) → MayLeaveEvent event p q
  may_fail event left =
      let adds : (d : Option Event) → after.doubt ≡ d → Adds was.doubt d m.view.failed q.view.failed = λ d is. subst (λ (d : Option Event). Adds was.doubt d m.view.failed q.view.failed) is doubt in
      ⊎_elim (λ (is : after.doubt ≡ was.doubt). inl (adds_same was.doubt m.view.failed q.view.failed (adds was.doubt is) ∙ e.quiet.2))
      (⊎_elim (λ (is : after.doubt ≡ None). inl (adds None is ∙ e.quiet.2))
      (λ (is : after.doubt ≡ Some event). ⊎_elim (λ (z : q.view.failed ≡ m.view.failed). inl (z ∙ e.quiet.2)) (λ (z : q.view.failed ≡ m.view.failed ++ event ∷ []). inr (z ∙ ap (λ (l : List Event). l ++ event ∷ []) e.quiet.2))
      (adds_one was.doubt event m.view.failed q.view.failed (adds (Some event) is)))) left

  told_by : (end : Ending) → Stays end (event_by was.slots call (events_in was)) (pass_number p) was after → MayEnd end was.slots call (events_in was) reply → (end ≡ failed → Rose (disks.faults was.disk) (disks.faults after.disk)) → changed ≡ reaches_disk end → IsRegistryTold end origin.origin.slots call reply p q
  told_by (made event) s may rose is =
      let came = brought p m q e leaves.same leaves.looks leaves.own (event_history was.entries) (event_history after.entries) (sym enters.sees) leaves.sees event (length (event_history was.entries) + 1) (ap event_history s.2 ∙ history_push was.entries event (pass_number p)) refl
      (subst (λ (d : Option Event). Adds was.doubt d m.view.failed q.view.failed) s.1 doubt) in
      (length (event_history was.entries) + 1, came.0, may ∙ (λ i. registry_reply (slots_same i) call (sym (ap known_events came.1 ∙ known_history was.entries) i)))
  told_by told s may rose is = (replied told s.1.0 may, quiet_on p m q e.quiet (quiet is))
  told_by failed s may rose is =
      let event = s.0 in
      let left : (after.doubt ≡ was.doubt) ⊎ (after.doubt ≡ None) ⊎ (after.doubt ≡ Some event) = subst (λ (d : Option Event). (d ≡ was.doubt) ⊎ (d ≡ None) ⊎ (d ≡ Some event)) (sym s.3.1) (left_by s.3.0 event) in
      let count : own_faults_of q ≡ own_count (own_faults_of m) (disks.faults was.disk) (disks.faults after.disk) = counts is ∙ (λ i. own_count (own_faults_of m) (disks.faults (same_was i).disk) (disks.faults after.disk)) in (
        event,
        sym (here (λ slots events. event_by slots call events) s.2) ∙ s.1,
        subst (λ (z : ℕ × ℕ). Rose z.0 z.1) (λ i. (e.quiet.1 i, sym count i)) (rises (own_faults_of m) (disks.faults was.disk) (disks.faults after.disk) (rose refl)),
        same_mine p m q e leaves.same leaves.looks leaves.own (event_history was.entries) (event_history after.entries) (sym enters.sees) leaves.sees (ap event_history s.2),
        may_fail event left,
      )
  told_by wanting s may rose is = (replied wanting s.0 may, quiet_on p m q e.quiet (quiet is))

  -- the call as its pass is told of it
  pub turned : DoesOnRegistry disks (pass_number p) call reply was after → (StayOnRegistry disks origin.origin call reply p q → HasRegistryStay disks origin.origin call reply p q) → CalledOnRegistry disks origin.origin p call reply q
  turned did has = record {
    legal = (on, told_by (ending call reply) called.changed.stays called.replies called.changed.went.cause reaches);
    stay = has (stay.stay_told (shared_registry disks) p m q was back came leaves same_was (λ found left. DoesOnRegistry disks (pass_number p) call reply found left) origin of did (fixed_still disks was after call (pass_number p) reply called));
  }
