-- What a change shows of the disk, whether it was asked or not.
use Rattle.std.proofs.Common.{◌≡◌, ◌≢◌, ◌⊎◌, inl, inr, ⊎_elim, ℕ, zero, suc, ◌-◌, not, List, [], ◌∷◌, ◌++◌, Option, Some, None, refl, sym, ◌∙◌, ap, subst}
use Rattle.std.specs.Prelude.{IsTrue}
use Rattle.log_base.specs.declared.phase.Phase.{Phase}
use Rattle.log_base.specs.declared.phase.Phase.TheVariants.{Settling, Body, Gate}
use Rattle.log_base.specs.Phases.{phase_by_syncs, phase_by_plan}
use Rattle.disk_model.specs.declared.disk.Disk.{Ghosts}
use Rattle.disk_model.specs.Past.{ok_syncs, EveryImage, LeavesOnly}
use Rattle.disk_model.proofs.Moments.{starts}
use Rattle.log_journal.specs.File.{Holds}
use Rattle.log_journal.specs.Writing.{HoldsDuring, LeavesEither, payloads_left, doubt_left}
use Rattle.registry_core.specs.declared.event.Event.{Event}
use Rattle.registry_core.specs.Answers.{Ending, made, told, failed, wanting}
use Rattle.registry_core.specs.Events.{events_of}
use Rattle.registry_core.specs.Texts.{event_text, registry_payloads}
use Rattle.registry_core.proofs.Tables.{events_of-push}
use Rattle.log_registry.specs.Stands.{MayHoldEvents, event_payload}
use Rattle.log_registry.specs.State.{StateView, events_in}
use Rattle.log_registry.specs.Changes.{ending_by, IsWritten, IsUntouched, Stays, WritesEvent, Changed}
use Rattle.log_registry.proofs.States.{payloads-push}

-- the text in doubt tells as much as the event
same_phase : (doubt : Option Event) (syncs : ℕ) → phase_by_syncs (event_payload doubt) syncs ≡ phase_by_syncs doubt syncs
same_phase None zero = refl
same_phase None (suc zero) = refl
same_phase None (suc (suc n)) = refl
same_phase (Some event) zero = refl
same_phase (Some event) (suc zero) = refl
same_phase (Some event) (suc (suc zero)) = refl
same_phase (Some event) (suc (suc (suc n))) = refl

same_plan : (doubt : Option Event) (plan : Option ℕ) → phase_by_plan (event_payload doubt) plan ≡ phase_by_plan doubt plan
same_plan doubt None = refl
same_plan doubt (Some syncs) = same_phase doubt syncs

same_doubt : (phase : Phase) (doubt : Option Event) (event : Event) → doubt_left (Some phase) (event_payload doubt) (event_text event) ≡ event_payload (doubt_left (Some phase) doubt event)
same_doubt Settling doubt event = refl
same_doubt Body doubt event = refl
same_doubt Gate doubt event = refl

made_by : (end : Option Phase) (event other : Event) → ending_by end event ≡ made other → end ≡ None
made_by None event other is = refl
made_by (Some phase) event other is = absurd (cc)

-- what an image holds meanwhile, where an event is due or none
abbrev pub HoldsMeanwhile : ℕ → List Event → Option Event → Option Event → List ℕ → Type 0
HoldsMeanwhile slots events doubt None image = MayHoldEvents slots events doubt image
HoldsMeanwhile slots events doubt (Some event) image = HoldsDuring 0 (registry_payloads slots events) (event_payload doubt) (event_text event) image

still : (slots : ℕ) (events : List Event) (doubt due : Option Event) (image : List ℕ) → MayHoldEvents slots events doubt image → HoldsMeanwhile slots events doubt due image
still slots events doubt None image holds = holds
still slots events None (Some event) image holds = inl holds
still slots events (Some doubt) (Some event) image holds = inl holds

module _ {D : Type 0} (disks : Ghosts D) (before after : StateView D) (due : Option Event) (by : ℕ) (ending : Ending) (c : Changed disks before after due by ending) where
  abbrev payloads : List (List ℕ)
  payloads = registry_payloads before.slots (events_in before)

  -- the event that is due was written, or nothing changed
  asked : ((event : Event) × (due ≡ Some event) × WritesEvent disks before after event ending) ⊎ IsUntouched before after
  asked = by_ending ending refl c.stays
    where
      by_ending : (end : Ending) → ending ≡ end → Stays end due by before after → ((event : Event) × (due ≡ Some event) × WritesEvent disks before after event ending) ⊎ IsUntouched before after
      by_ending (made event) is stays = inl (event, stays.0, c.writes event stays.0 (λ want. let no : made event ≡ wanting = sym is ∙ want in cc))
      by_ending told is stays = inr stays.1
      by_ending failed is stays = inl (stays.0, stays.1, c.writes stays.0 stays.1 (λ want. let no : failed ≡ wanting = sym is ∙ want in cc))
      by_ending wanting is stays = inr stays

  -- a crash at any moment leaves the events, or these with the one in doubt or with the one due
  pub any_moment : disks.tells → LeavesOnly (HoldsMeanwhile before.slots (events_in before) before.doubt due) (disks.past before.disk) (disks.past after.disk)
  any_moment tells = ⊎_elim
      (λ (w : (event : Event) × (due ≡ Some event) × WritesEvent disks before after event ending). subst (λ (d : Option Event). LeavesOnly (HoldsMeanwhile before.slots (events_in before) before.doubt d) (disks.past before.disk) (disks.past after.disk)) (sym w.1) (w.2.written.any_moment tells))
      (λ (same : IsUntouched before after). subst (λ (disk : D). LeavesOnly (HoldsMeanwhile before.slots (events_in before) before.doubt due) (disks.past before.disk) (disks.past disk)) (sym same.2)
      (starts (HoldsMeanwhile before.slots (events_in before) before.doubt due) (disks.past before.disk) (λ image left. still before.slots (events_in before) before.doubt due image ((c.stood tells).each image left))))
      asked

  -- the phase of the writing that failed is that of the first sync which wasn't done
  pub by_syncs : disks.tells → (event : Event) → due ≡ Some event → ending ≢ wanting → IsWritten (phase_by_syncs before.doubt (ok_syncs (disks.past after.disk) - ok_syncs (disks.past before.disk))) event before after ending
  by_syncs tells event is no_want =
      let w = c.writes event is no_want in
      subst (λ (end : Option Phase). IsWritten end event before after ending) (w.written.by_syncs tells ∙ same_phase before.doubt (ok_syncs (disks.past after.disk) - ok_syncs (disks.past before.disk))) w.is

  -- where the syncs fail as planned, it is that of the plan
  pub planned : disks.plans → IsTrue (not (disks.short after.disk)) → (event : Event) → due ≡ Some event → ending ≢ wanting → IsWritten (phase_by_plan before.doubt (disks.next_failure before.disk)) event before after ending
  planned plans long event is no_want =
      let w = c.writes event is no_want in
      subst (λ (end : Option Phase). IsWritten end event before after ending) (w.written.planned plans long ∙ same_plan before.doubt (disks.next_failure before.disk)) w.is

  -- what is made is in every image
  pub kept : (event : Event) → ending ≡ made event → disks.tells → EveryImage (disks.past after.disk) (λ image. Holds image 0 (registry_payloads after.slots (events_in after)))
  kept event is tells =
      let stays = subst (λ (end : Ending). Stays end due by before after) is c.stays in
      let w = c.writes event stays.0 (λ want. let no : made event ≡ wanting = sym is ∙ want in cc) in
      let events : events_in before ++ event ∷ [] ≡ events_in after = sym (events_of-push before.entries (record { event = event; by = by })) ∙ ap events_of (sym stays.2) in
      let all : payloads ++ event_text event ∷ [] ≡ registry_payloads after.slots (events_in after) = sym (payloads-push before.slots (events_in before) event) ∙ (λ i. registry_payloads (sym c.slots i) (events i)) in
      subst (λ (held : List (List ℕ)). EveryImage (disks.past after.disk) (λ image. Holds image 0 held)) all (w.written.kept (made_by w.end event event (sym w.is.0 ∙ is)) tells)

  -- as planned, an event in doubt stands where what wasn't synced is 1, and not in what was synced
  pub images : disks.plans → disks.tells → IsTrue (not (disks.short after.disk)) → LeavesEither (disks.past before.disk) 0 payloads (event_payload before.doubt)
      → LeavesEither (disks.past after.disk) 0 (registry_payloads after.slots (events_in after)) (event_payload after.doubt)
  images plans tells long either = ⊎_elim
      (λ (w : (event : Event) × (due ≡ Some event) × WritesEvent disks before after event ending). left_by w.0 w.2.end w.2.is (w.2.written.images plans tells long either))
      (λ (same : IsUntouched before after). left_as after.disk before.disk same.2 same.0 same.1 either)
      asked
    where
      left_as : (new old : D) → new ≡ old → after.entries ≡ before.entries → (text : after.doubt ≡ before.doubt) → LeavesEither (disks.past old) 0 payloads (event_payload before.doubt) → LeavesEither (disks.past new) 0 (registry_payloads after.slots (events_in after)) (event_payload after.doubt)
      left_as new old is entries doubt left = subst (λ (z : D × StateView D). LeavesEither (disks.past z.0) 0 (registry_payloads z.1.slots (events_in z.1)) (event_payload z.1.doubt))
          (λ i. (sym is i, record { slots = sym c.slots i; entries = sym entries i; doubt = sym doubt i; disk = old })) left

      left_by : (event : Event) (end : Option Phase) → IsWritten end event before after ending → LeavesEither (disks.past after.disk) 0 (payloads_left end payloads (event_text event)) (doubt_left end (event_payload before.doubt) (event_text event))
          → LeavesEither (disks.past after.disk) 0 (registry_payloads after.slots (events_in after)) (event_payload after.doubt)
      left_by event None is left = subst (λ (doubt : Option Event). LeavesEither (disks.past after.disk) 0 (registry_payloads after.slots (events_in after)) (event_payload doubt)) (sym is.1) tt
      left_by event (Some phase) is left =
          let stays = subst (λ (end : Ending). Stays end due by before after) is.0 c.stays in
          subst (λ (z : List (List ℕ) × Option (List ℕ)). LeavesEither (disks.past after.disk) 0 z.0 z.1) (λ i. (registry_payloads (sym c.slots i) (events_of (sym stays.2 i)), (same_doubt phase before.doubt event ∙ ap event_payload (sym is.1)) i)) left
