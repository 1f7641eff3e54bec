-- What a run leaves at its stop, and what the next one finds.
use Rattle.std.proofs.Common.{◌≡◌, ◌⊎◌, inl, inr, ⊎_elim, ℕ, List, [], ◌∷◌, ◌++◌, Option, Some, None, refl, sym, ◌∙◌, ap, subst, arith, append_assoc, append-nil}
use mathlib.Core.List.{IsPrefix}
use Rattle.disk_model.specs.declared.disk.Disk.{Ghosts}
use Rattle.log_base.specs.OneMore.{with_one_more}
use Rattle.log_base.specs.declared.source_info.SourceInfo.{SourceInfo}
use Rattle.log_journal.specs.File.{Holds}
use Rattle.log_journal.specs.Journal.{HoldsWithOrWithout}
use Rattle.log_journal.specs.Writing.{HoldsDuring}
use Rattle.log_journal.specs.declared.form.Form.TheVariants.{New}
use Rattle.log_journal.proofs.OneReading.{one_list as one_reading}
use Rattle.registry_core.specs.declared.event.Event.{Event}
use Rattle.registry_core.specs.declared.event.Event.TheVariants.{Created}
use Rattle.registry_core.specs.declared.answer.CreateAnswer.{CreateAnswer}
use Rattle.registry_core.specs.declared.answer.CreateAnswer.TheVariants.{Made, BadName, BadUri, NameTaken, IdTaken, Full, OutOfMemory, DiskFault}
use Rattle.registry_core.specs.declared.answer.ChangeAnswer.{ChangeAnswer}
use Rattle.registry_core.specs.declared.answer.ChangeAnswer.TheVariants.{Done, NoSuchName, BadName as IsBadName, NameTaken as IsNameTaken, Full as IsFull, OutOfMemory as WantsMemory, DiskFault as Fails}
use Rattle.registry_core.specs.Answers.{event_in, end_of_create, end_of_change}
use Rattle.registry_core.specs.Events.{AreNext, IsNextEvent, IsRegistry}
use Rattle.registry_core.specs.Replies.{RegistryCall, create, rename, remove, resolve, resolve_id, resolve_uri, list, event_by, create_reply, rename_reply, remove_reply, next_source, renaming, removal}
use Rattle.std.proofs.lemmas.Fmt.{length-decimal-le_succ}
use Rattle.registry_core.specs.Tables.{IsTable}
use Rattle.registry_core.specs.Texts.{event_text, registry_payloads, registry_length}
use Rattle.registry_core.proofs.Replied.{source_is, source_next, renaming_next, removal_next}
use Rattle.registry_core.proofs.Openings.{one_registry}
use Rattle.registry_core.proofs.Tables.{registry-push, can_be_made, can_be_named, table-push, empty_table}
use Rattle.log_registry.specs.Stands.{StandsForRegistry, MayHoldEvents, event_payload}
use Rattle.log_registry.specs.State.{StateView, events_in}
use Rattle.log_registry.proofs.States.{payloads-push}
use Rattle.log_registry.proofs.Writes.{HoldsMeanwhile, any_moment}
use Rattle.turn_cell.proofs.Views.{prefix_refl}
use Rattle.registry_deployment.specs.Calls.{HandsInEvent, HandsInTexts}
use Rattle.registry_deployment.specs.History.{RegistryPassRun, IsRegistryIn, UnansweredChange, IsChangeUnderWay, LeavesRegistry, RegistryRun, IsRegistryRun}
use Rattle.registry_deployment.proofs.Fronts.{one_more}

-- ---- the event that is due

-- what an answer tells that was made
made_source : (answer : CreateAnswer) (event : Event) → event_in (end_of_create answer) ≡ Some event → (source : SourceInfo) × (answer ≡ Made source) × (event ≡ Created source)
made_source (Made source) event is = let same : Created source ≡ event = cc in (source, refl, sym same)
made_source (BadName at) event is = absurd (cc)
made_source (BadUri at) event is = absurd (cc)
made_source (NameTaken id) event is = absurd (cc)
made_source (IdTaken name) event is = absurd (cc)
made_source (Full what have limit) event is = absurd (cc)
made_source OutOfMemory event is = absurd (cc)
made_source DiskFault event is = absurd (cc)

done_source : (of : SourceInfo → Event) (answer : ChangeAnswer) (event : Event) → event_in (end_of_change of answer) ≡ Some event → (source : SourceInfo) × (answer ≡ Done source) × (event ≡ of source)
done_source of (Done source) event is = let same : of source ≡ event = cc in (source, refl, sym same)
done_source of NoSuchName event is = absurd (cc)
done_source of (IsBadName at) event is = absurd (cc)
done_source of (IsNameTaken id) event is = absurd (cc)
done_source of (IsFull what have limit) event is = absurd (cc)
done_source of WantsMemory event is = absurd (cc)
done_source of Fails event is = absurd (cc)

-- what a call makes is of what it hands in
pub from_call : (slots : ℕ) (call : RegistryCall) (events : List Event) (event : Event) → event_by slots call events ≡ Some event → HandsInEvent call event
from_call slots (create name uri id) events event is =
    let there = made_source (create_reply slots events name uri id) event is in
    let same : next_source events name uri id ≡ there.0 = (can_be_made slots events name uri id there.0 there.1).is in
    let from : HandsInEvent (create name uri id) (Created there.0) = subst (λ (s : SourceInfo). HandsInEvent (create name uri id) (Created s)) same (refl, refl, refl) in
    subst (HandsInEvent (create name uri id)) (sym there.2) from
from_call slots (rename name new_name) events event is =
    let there = done_source renaming (rename_reply slots events name new_name) event is in
    let same : new_name ≡ there.0.name = ap (λ (s : SourceInfo). s.name) (can_be_named slots events name new_name there.0 there.1).is in
    subst (HandsInEvent (rename name new_name)) (sym there.2) (sym same)
from_call slots (remove name) events event is =
    let there = done_source removal (remove_reply slots events name) event is in
    subst (HandsInEvent (remove name)) (sym there.2) tt
from_call slots (resolve name) events event is = absurd (cc)
from_call slots (resolve_id id) events event is = absurd (cc)
from_call slots (resolve_uri uri) events event is = absurd (cc)
from_call slots list events event is = absurd (cc)

-- what is kept of a registry's events
record HasTable (slots : ℕ) (events : List Event) : Type 0 where
  living : List SourceInfo
  count : ℕ
  bytes : ℕ
  table : IsTable slots events living count bytes

goes : (slots : ℕ) (before events : List Event) → HasTable slots before → AreNext slots before events → HasTable slots (before ++ events)
goes slots before [] has next = subst (HasTable slots) (sym (append-nil before)) has
goes slots before (event ∷ events) has next =
    let more : HasTable slots (before ++ event ∷ []) = record { living = _; count = _; bytes = _; table = table-push slots before has.living has.count has.bytes event has.table next.0 } in
    subst (HasTable slots) (append_assoc before (event ∷ []) events) (goes slots (before ++ event ∷ []) events more next.1)

has_table : (slots : ℕ) (events : List Event) → IsRegistry slots events → HasTable slots events
has_table slots events is =
    let empty : HasTable slots [] = record {
      living = [];
      count = 0;
      bytes = registry_length slots [];
      table = empty_table slots [] [] (registry_length slots []) is.is_slot refl refl refl (let short = length-decimal-le_succ slots (omega (arith, is.is_slot.1)) in omega (arith, short, is.is_slot.1));
    } in
    goes slots [] events empty is.are_next

-- what a call makes may stand behind the others
due_next : (slots : ℕ) (call : RegistryCall) (events : List Event) (event : Event) → IsRegistry slots events → HandsInTexts call → event_by slots call events ≡ Some event → IsNextEvent slots events event
due_next slots (create name uri id) events event registry texts is =
    let has = has_table slots events registry in
    let there = made_source (create_reply slots events name uri id) event is in
    let same : next_source events name uri id ≡ there.0 = (can_be_made slots events name uri id there.0 there.1).is in
    let next = source_next slots events has.living has.count has.bytes has.table name uri id texts.2 texts.0 texts.1 (there.1 ∙ ap (λ (s : SourceInfo). Made s) (sym same)) in
    let one = source_is slots events has.living has.count has.bytes has.table name uri id ∙ same in
    subst (IsNextEvent slots events) (sym there.2) (subst (λ (s : SourceInfo). IsNextEvent slots events (Created s)) one next)
due_next slots (rename name new_name) events event registry texts is =
    let has = has_table slots events registry in
    let there = done_source renaming (rename_reply slots events name new_name) event is in
    let can = can_be_named slots events name new_name there.0 there.1 in
    let next = renaming_next slots events has.living has.count has.bytes has.table name new_name can.source texts (there.1 ∙ ap (λ (s : SourceInfo). Done s) (sym can.is)) in
    subst (IsNextEvent slots events) (sym there.2) (subst (λ (s : SourceInfo). IsNextEvent slots events (renaming s)) can.is next)
due_next slots (remove name) events event registry texts is =
    let has = has_table slots events registry in
    let there = done_source removal (remove_reply slots events name) event is in
    subst (IsNextEvent slots events) (sym there.2) (removal_next slots events has.living has.count has.bytes has.table name there.0 there.1)
due_next slots (resolve name) events event registry texts is = absurd (cc)
due_next slots (resolve_id id) events event registry texts is = absurd (cc)
due_next slots (resolve_uri uri) events event registry texts is = absurd (cc)
due_next slots list events event registry texts is = absurd (cc)

-- ---- an image

-- a registry in an image: these events, or these and one more that has Q
pub record LeavesEvents (image : List ℕ) (slots : ℕ) (events : List Event) (Q : Event → Type 0) : Type 0 where
  pub left : List Event
  pub which : (left ≡ events) ⊎ ((event : Event) × (left ≡ events ++ event ∷ []) × Q event)
  pub found : IsRegistryIn image slots left

pub events_begin : (events left : List Event) (Q : Event → Type 0) → (left ≡ events) ⊎ ((event : Event) × (left ≡ events ++ event ∷ []) × Q event) → IsPrefix events left
events_begin events left Q which = ⊎_elim (λ (e : left ≡ events). subst (IsPrefix events) (sym e) (prefix_refl events))
    (λ (z : (event : Event) × (left ≡ events ++ event ∷ []) × Q event). subst (IsPrefix events) (sym z.1) (one_more events z.0)) which

-- an image holds one registry
pub one_found : (image : List ℕ) (slots other_slots : ℕ) (one other : List Event) → IsRegistryIn image slots one → IsRegistryIn image other_slots other → (slots ≡ other_slots) × (one ≡ other)
one_found image slots other_slots one other a b =
    let texts = one_reading New image 0 (registry_payloads slots one) (registry_payloads other_slots other) a.holds b.holds in
    one_registry (registry_payloads other_slots other) slots other_slots one other (texts, a.registry) (refl, b.registry)

module _ (slots : ℕ) (events : List Event) (image : List ℕ) (Q : Event → Type 0) (is : IsRegistry slots events) where
  plain : Holds image 0 (registry_payloads slots events) → LeavesEvents image slots events Q
  plain holds = record { left = events; which = inl refl; found = record { holds = holds; registry = is } }

  pushed : (event : Event) → Q event → IsRegistry slots (events ++ event ∷ []) → Holds image 0 (registry_payloads slots events ++ event_text event ∷ []) → LeavesEvents image slots events Q
  pushed event q longer holds = record {
    left = events ++ event ∷ [];
    which = inr (event, refl, q);
    found = record { holds = subst (Holds image 0) (sym (payloads-push slots events event)) holds; registry = longer };
  }

  either : (event : Event) → Q event → IsRegistry slots (events ++ event ∷ []) → HoldsWithOrWithout 0 (registry_payloads slots events) (event_text event) image → LeavesEvents image slots events Q
  either event q longer held = ⊎_elim (λ (h : Holds image 0 (registry_payloads slots events)). plain h) (λ (h : Holds image 0 (registry_payloads slots events ++ event_text event ∷ [])). pushed event q longer h) held

  with_or_without : (doubt : Option Event) → ((d : Event) → doubt ≡ Some d → Q d) → IsRegistry slots (with_one_more events doubt) → MayHoldEvents slots events doubt image → LeavesEvents image slots events Q
  with_or_without None of_doubt having held = plain held
  with_or_without (Some doubt) of_doubt having held = either doubt (of_doubt doubt refl) having held

  -- while a change is under way
  during : (doubt : Option Event) (event : Event) → ((d : Event) → doubt ≡ Some d → Q d) → Q event → IsRegistry slots (with_one_more events doubt) → IsRegistry slots (events ++ event ∷ [])
      → HoldsDuring 0 (registry_payloads slots events) (event_payload doubt) (event_text event) image → LeavesEvents image slots events Q
  during None event of_doubt q having longer held = either event q longer held
  during (Some doubtful) event of_doubt q having longer held = ⊎_elim
      (λ (h : HoldsWithOrWithout 0 (registry_payloads slots events) (event_text doubtful) image). either doubtful (of_doubt doubtful refl) having h)
      (λ (h : HoldsWithOrWithout 0 (registry_payloads slots events) (event_text event) image). either event q longer h) held

module _ {D : Type 0} (disks : Ghosts D) (tells : disks.tells) where
  -- what may stand behind the events: the one in doubt, or the one whose change was under way
  abbrev pub MayStandNext : RegistryRun D → Event → Type 0
  MayStandNext run event = (run.registry.doubt ≡ Some event) ⊎ ((change : UnansweredChange D) × (run.under_way ≡ Some change) × (change.event ≡ event))

  leaves_more : (Q : Event → Type 0) (passes : List RegistryPassRun) (registry : StateView D) (under_way : Option (UnansweredChange D)) (image : List ℕ) → ((d : Event) → registry.doubt ≡ Some d → Q d) → ((change : UnansweredChange D) → under_way ≡ Some change → Q change.event)
      → StandsForRegistry (disks.past registry.disk) registry.slots (events_in registry) registry.doubt → LeavesRegistry disks passes registry under_way image → LeavesEvents image registry.slots (events_in registry) Q
  leaves_more Q passes registry None image of_doubt q stands left = with_or_without registry.slots (events_in registry) image Q stands.without registry.doubt of_doubt stands.having (stands.each image left)
  leaves_more Q passes registry (Some change) image of_doubt q stands left =
      let way : IsChangeUnderWay disks passes registry change = left.0 in
      let longer = registry-push registry.slots (events_in registry) change.event stands.without (due_next registry.slots way.call (events_in registry) change.event stands.without way.texts way.due) in
      let held = (any_moment disks registry change.left _ _ _ way.called.changed tells).each image left.1 in
      during registry.slots (events_in registry) image Q stands.without registry.doubt change.event of_doubt (q change refl) stands.having longer
      (subst (λ (due : Option Event). HoldsMeanwhile registry.slots (events_in registry) registry.doubt due image) way.due held)

  -- a run leaves a registry that goes on from that of its turn
  pub run_leaves : (image : List ℕ) (run : RegistryRun D) → IsRegistryRun disks image run → LeavesEvents run.image run.made.origin.slots (events_in run.registry) (MayStandNext run)
  run_leaves image run is =
      let same : run.registry.slots ≡ run.made.origin.slots = ap (λ f. f.slots) is.at_stop.fixed in
      subst (λ (n : ℕ). LeavesEvents run.image n (events_in run.registry) (MayStandNext run)) same
      (leaves_more (MayStandNext run) run.passes run.registry run.under_way run.image (λ d e. inl e) (λ change e. inr (change, e, refl)) (is.at_stop.stands tells) is.leaves)

  pub run_begins : (image : List ℕ) (run : RegistryRun D) (is : IsRegistryRun disks image run) → IsPrefix (events_in run.registry) (run_leaves image run is).left
  run_begins image run is = let left = run_leaves image run is in events_begin (events_in run.registry) left.left (MayStandNext run) left.which
