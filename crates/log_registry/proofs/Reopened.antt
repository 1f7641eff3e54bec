-- What opening finds in an image that a registry's disk may leave.
use Rattle.std.proofs.Common.{◌≡◌, ◌⊎◌, inl, inr, ⊎_elim, ℕ, zero, suc, ◌+◌, ◌≤◌, List, [], ◌∷◌, ◌++◌, map, take, length, Option, Some, None, refl, sym, ◌∙◌, ap, subst, arith, append_assoc, append-nil}
use Rattle.std.specs.Prelude.{sum_by}
use Rattle.std.proofs.lemmas.Fmt.{length-decimal-le_succ}
use Rattle.std.proofs.lemmas.List.Sums.{sum_by-cons}
use Rattle.disk_model.specs.Past.{Past, MayLeave}
use Rattle.log_base.specs.Journals.{payloads_length}
use Rattle.log_journal.specs.File.{Holds}
use Rattle.log_journal.proofs.OneReading.{one_list, one_number, never_both, never_old}
use Rattle.log_journal.specs.declared.form.Form.TheVariants.{New}
use Rattle.registry_core.specs.Texts.{slots_payload}
use Rattle.registry_core.specs.declared.event.Event.{Event}
use Rattle.registry_core.specs.Events.{AreNext, IsRegistry, BreaksAtEvent}
use Rattle.log_base.specs.declared.limits.TheConstants.{PAYLOAD_FRAME, REGISTRY_LIMIT}
use Rattle.registry_core.specs.Texts.{event_text, registry_payloads, registry_length}
use Rattle.registry_core.proofs.Openings.{one_registry}
use Rattle.registry_core.proofs.Tables.{length-push, has_room}
use Rattle.log_registry.specs.declared.fault.RegistryFault.{RegistryFault}
use Rattle.log_registry.specs.declared.fault.RegistryFault.TheVariants.{Failed, Damaged, OldFormat, WrongNumber, OverLimit, OutOfMemory, BrokenEvent}
use Rattle.log_registry.specs.Fault.{HasRegistryFault}
use Rattle.log_registry.specs.Stands.{StandsForRegistry}
use Rattle.log_base.specs.OneMore.{with_one_more}
use Rattle.log_registry.proofs.States.{payloads-push}

-- ---- lengths

texts_length : (events : List Event) → sum_by (λ (event : Event). PAYLOAD_FRAME + length (event_text event)) events ≡ sum_by (λ (payload : List ℕ). PAYLOAD_FRAME + length payload) (map event_text events)
texts_length [] = refl
texts_length (event ∷ events) = omega (arith, sum_by-cons (λ (event : Event). PAYLOAD_FRAME + length (event_text event)) event events, sum_by-cons (λ (payload : List ℕ). PAYLOAD_FRAME + length payload) (event_text event) (map event_text events), texts_length events)

same_length : (slots : ℕ) (events : List Event) → payloads_length (registry_payloads slots events) ≡ registry_length slots events
same_length slots events = omega (arith, sum_by-cons (λ (payload : List ℕ). PAYLOAD_FRAME + length payload) (slots_payload slots) (map event_text events), texts_length events)

fits_behind : (slots : ℕ) (before events : List Event) → registry_length slots before ≤ REGISTRY_LIMIT → AreNext slots before events → registry_length slots (before ++ events) ≤ REGISTRY_LIMIT
fits_behind slots before [] fits next = subst (λ (es : List Event). registry_length slots es ≤ REGISTRY_LIMIT) (sym (append-nil before)) fits
fits_behind slots before (event ∷ events) fits next =
    let more = subst (λ (n : ℕ). n ≤ REGISTRY_LIMIT) (sym (length-push slots before event)) (has_room slots before event next.0.1) in
    subst (λ (es : List Event). registry_length slots es ≤ REGISTRY_LIMIT) (append_assoc before (event ∷ []) events) (fits_behind slots (before ++ event ∷ []) events more next.1)

fits : (slots : ℕ) (events : List Event) → IsRegistry slots events → registry_length slots events ≤ REGISTRY_LIMIT
fits slots events is = fits_behind slots [] events (let short = length-decimal-le_succ slots (omega (arith, is.is_slot.1)) in omega (arith, short, is.is_slot.1)) is.are_next

-- each event takes some bytes
events_length : (events : List Event) → length events ≤ sum_by (λ (event : Event). PAYLOAD_FRAME + length (event_text event)) events
events_length [] = omega arith
events_length (event ∷ events) = omega (arith, sum_by-cons (λ (event : Event). PAYLOAD_FRAME + length (event_text event)) event events, events_length events)

pub few_events : (slots : ℕ) (events : List Event) → IsRegistry slots events → length events ≤ REGISTRY_LIMIT
few_events slots events is = omega (arith, fits slots events is, events_length events)

-- ---- a registry breaks nowhere

next-take : (slots : ℕ) (before events : List Event) (n : ℕ) → AreNext slots before events → AreNext slots before (take n events)
next-take slots before [] zero next = tt
next-take slots before [] (suc n) next = tt
next-take slots before (event ∷ events) zero next = tt
next-take slots before (event ∷ events) (suc n) next = (next.0, next-take slots (before ++ event ∷ []) events n next.1)

texts-take : (events : List Event) (n : ℕ) → map event_text (take n events) ≡ take n (map event_text events)
texts-take [] zero = refl
texts-take [] (suc n) = refl
texts-take (event ∷ events) zero = refl
texts-take (event ∷ events) (suc n) = ap (λ (ts : List (List ℕ)). event_text event ∷ ts) (texts-take events n)

never_breaks : (slots : ℕ) (events : List Event) (place : ℕ) → IsRegistry slots events → BreaksAtEvent (registry_payloads slots events) place → ⊥
never_breaks slots events place is breaks =
    let front : take (place + 1) (registry_payloads slots events) ≡ slots_payload slots ∷ take place (map event_text events) = ap (λ (n : ℕ). take n (registry_payloads slots events)) (let more : place + 1 ≡ suc place = omega arith in more) in
    breaks.broken slots (take place events) (
      ap (λ (ts : List (List ℕ)). slots_payload slots ∷ ts) (texts-take events place) ∙ sym front,
      record { is_slot = is.is_slot; are_next = next-take slots [] events place is.are_next },
    )

-- ---- images

no_fault : (file : List ℕ) (slots : ℕ) (events : List Event) (fault : RegistryFault) → Holds file 0 (registry_payloads slots events) → IsRegistry slots events → HasRegistryFault file fault → (fault ≡ Failed) ⊎ (fault ≡ OutOfMemory)
no_fault file slots events Failed holds is has = inl refl
no_fault file slots events OutOfMemory holds is has = inr refl
no_fault file slots events (Damaged at) holds is has = absurd (never_both New file 0 at (registry_payloads slots events) holds has)
no_fault file slots events OldFormat holds is has = absurd (never_old file 0 (registry_payloads slots events) holds has)
no_fault file slots events (WrongNumber found) holds is has = absurd (has.1 (one_number New file 0 found (registry_payloads slots events) (omega arith) holds has.0))
no_fault file slots events (OverLimit size limit) holds is has =
    let same = ap payloads_length (one_list New file 0 has.0 (registry_payloads slots events) has.1 holds) in
    absurd (omega (arith, has.2, has.3, same, same_length slots events, fits slots events is))
no_fault file slots events (BrokenEvent place) holds is has =
    let same = one_list New file 0 has.0 (registry_payloads slots events) has.1 holds in
    absurd (never_breaks slots events place is (subst (λ (payloads : List (List ℕ)). BreaksAtEvent payloads place) same has.3))

-- the events that an image holds
record HoldsRegistry (image : List ℕ) (slots : ℕ) (events : List Event) (doubt : Option Event) : Type 0 where
  held : List Event
  which : (held ≡ events) ⊎ (held ≡ with_one_more events doubt)
  is : IsRegistry slots held
  holds : Holds image 0 (registry_payloads slots held)

held_in : (past : Past) (slots : ℕ) (events : List Event) (doubt : Option Event) (image : List ℕ) → StandsForRegistry past slots events doubt → MayLeave past image → HoldsRegistry image slots events doubt
held_in past slots events None image stands left = record { held = events; which = inl refl; is = stands.without; holds = stands.each image left }
held_in past slots events (Some doubt) image stands left = ⊎_elim
    (λ without. record { held = events; which = inl refl; is = stands.without; holds = without })
    (λ having. record { held = events ++ doubt ∷ []; which = inr refl; is = stands.having; holds = subst (λ (payloads : List (List ℕ)). Holds image 0 payloads) (sym (payloads-push slots events doubt)) having })
    (stands.each image left)

pub found_again : (past : Past) (slots found_slots : ℕ) (events found : List Event) (doubt : Option Event) (image : List ℕ) → StandsForRegistry past slots events doubt → MayLeave past image
    → Holds image 0 (registry_payloads found_slots found) → IsRegistry found_slots found → (found_slots ≡ slots) × ((found ≡ events) ⊎ (found ≡ with_one_more events doubt))
found_again past slots found_slots events found doubt image stands left holds is =
    let there = held_in past slots events doubt image stands left in
    let payloads = one_list New image 0 (registry_payloads found_slots found) (registry_payloads slots there.held) holds there.holds in
    let same = one_registry (registry_payloads slots there.held) found_slots slots found there.held (payloads, is) (refl, there.is) in
    (same.0, ⊎_elim (λ w. inl (same.1 ∙ w)) (λ w. inr (same.1 ∙ w)) there.which)

pub no_fault_again : (past : Past) (slots : ℕ) (events : List Event) (doubt : Option Event) (image : List ℕ) (fault : RegistryFault) → StandsForRegistry past slots events doubt → MayLeave past image
    → HasRegistryFault image fault → (fault ≡ Failed) ⊎ (fault ≡ OutOfMemory)
no_fault_again past slots events doubt image fault stands left has =
    let there = held_in past slots events doubt image stands left in
    no_fault image slots there.held fault there.holds there.is has
