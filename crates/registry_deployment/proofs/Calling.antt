-- The calls of a pass: what it knows goes on, and what it brought its calls handed in.
use Rattle.std.proofs.Common.{◌≡◌, ◌⊎◌, inl, inr, ⊎_elim, ℕ, suc, List, [], ◌∷◌, ◌++◌, length, Option, Some, None, refl, sym, ◌∙◌, ap, subst, arith, length-append}
use Rattle.std.specs.Prelude.{slice_get}
use Rattle.std.proofs.lemmas.List.{length-map}
use mathlib.Core.List.{IsPrefix}
use Rattle.disk_model.specs.declared.disk.Disk.{Ghosts}
use Rattle.registry_core.specs.declared.event.Event.{Event}
use Rattle.registry_core.specs.Answers.{Ending, made, told, failed, wanting, event_in}
use Rattle.registry_core.specs.Replies.{RegistryCall, RegistryReply, ending, event_by}
use Rattle.log_registry.specs.State.{StateView}
use Rattle.turn_cell.specs.declared.view.Known.{Known}
use Rattle.turn_cell.specs.Calls.{IsReplied}
use Rattle.turn_cell.specs.Turns.{IsIn}
use Rattle.turn_cell.specs.Knowing.{SeesOn, Brought, pass_number, seen_of, mine_of, failed_of}
use Rattle.turn_cell.proofs.Views.{prefix_trans, prefix_refl}
use Rattle.turn_cell.proofs.Members.{in_either}
use Rattle.shared_registry.specs.History.{RegistrySight, event_entry, known_events, events_seen}
use Rattle.shared_registry.specs.Legal.{IsRegistryTold}
use Rattle.shared_registry.specs.Lookups.{MayWantNames}
use Rattle.shared_registry.specs.Stays.{CalledOnRegistry}
use Rattle.registry_deployment.specs.Calls.{HandsInEvent, EndsSo, SeenOnRegistry, IsLegalOnRegistry, AreSeenOnRegistry, HasDoneOnRegistry, nothing, brought, doubted, IsAmidOnRegistry}
use Rattle.registry_deployment.proofs.Fronts.{got_in, got_last, events_append, events_go_on}
use Rattle.registry_deployment.proofs.Left.{from_call}

-- ---- what a pass knows goes on

module _ {D : Type 0} (disks : Ghosts D) (origin : StateView D) where
  pub legal_sees : (p q : RegistrySight) (call : RegistryCall) (reply : Option RegistryReply) → IsReplied (CalledOnRegistry disks origin) MayWantNames p call reply q → SeesOn p q
  legal_sees p q call (Some reply) called = called.legal.0
  legal_sees p q call None wants = wants.1.0

  pub calls_go_on : (p q : RegistrySight) (calls : List SeenOnRegistry) → AreSeenOnRegistry disks origin p calls q → IsPrefix (seen_of p) (seen_of q)
  calls_go_on p q [] same = subst (λ (x : RegistrySight). IsPrefix (seen_of p) (seen_of x)) (sym same) (prefix_refl (seen_of p))
  calls_go_on p q (seen ∷ more) are =
      let first : SeesOn seen.before seen.after = legal_sees seen.before seen.after seen.call seen.reply are.1 in
      let here : IsPrefix (seen_of p) (seen_of seen.after) = subst (λ (x : RegistrySight). IsPrefix (seen_of x) (seen_of seen.after)) are.0 first.2 in
      prefix_trans (seen_of p) (seen_of seen.after) (seen_of q) here (calls_go_on seen.after q more are.2)

  -- each of them was legal, and what the pass then knew it knew on
  pub one_call : (p q : RegistrySight) (calls : List SeenOnRegistry) (seen : SeenOnRegistry) → AreSeenOnRegistry disks origin p calls q → IsIn seen calls → IsLegalOnRegistry disks origin seen × IsPrefix (seen_of seen.after) (seen_of q)
  one_call p q [] seen are i = absurd i
  one_call p q (first ∷ more) seen are i = ⊎_elim
      (λ (e : seen ≡ first). subst (λ (x : SeenOnRegistry). IsLegalOnRegistry disks origin x × IsPrefix (seen_of x.after) (seen_of q)) (sym e) (are.1, calls_go_on first.after q more are.2))
      (λ (j : IsIn seen more). one_call first.after q more seen are.2 j) i

pub amid_on : (p q : RegistrySight) (call : Option RegistryCall) → IsAmidOnRegistry p call q → IsPrefix (seen_of p) (seen_of q)
amid_on p q None same = subst (λ (x : RegistrySight). IsPrefix (seen_of p) (seen_of x)) (sym same) (prefix_refl (seen_of p))
amid_on p q (Some call) amid = amid.0

-- ---- an event that was brought

pub brought_events : (p q : RegistrySight) (event : Event) (place : ℕ) (b : Brought event place p q) → events_seen q ≡ known_events b.before ++ event ∷ []
brought_events p q event place b = ap known_events b.sees ∙ events_append b.before (event_entry event (pass_number p) ∷ [])

-- the event stands at this place, which is counted from 1
abbrev pub StandsAt : RegistrySight → ℕ → Event → Type 0
StandsAt q place event = (k : ℕ) × (place ≡ suc k) × (slice_get (events_seen q) k ≡ Some event)

stands_brought : (p q : RegistrySight) (event : Event) (place : ℕ) → Brought event place p q → StandsAt q place event
stands_brought p q event place b =
    let one = event_entry event (pass_number p) in
    let count : place ≡ suc (length (known_events b.before)) = omega (arith, b.at_end, ap length b.sees, length-append b.before (one ∷ []), length-map b.before (λ (known : Known Event). known.content)) in
    (length (known_events b.before), count, ap (λ (es : List Event). slice_get es (length (known_events b.before))) (brought_events p q event place b) ∙ got_last (known_events b.before) event)

stands_on : (p q : RegistrySight) (place : ℕ) (event : Event) → IsPrefix (seen_of p) (seen_of q) → StandsAt p place event → StandsAt q place event
stands_on p q place event on there = (there.0, there.1, got_in (events_seen p) (events_seen q) there.0 event (events_go_on (seen_of p) (seen_of q) on) there.2)

-- ---- what a call brought

data Does (call : RegistryCall) (reply : Option RegistryReply) (p q : RegistrySight) : Type 0 where
  quiet : mine_of q ≡ mine_of p → failed_of q ≡ failed_of p → Does call reply p q
  makes : (event : Event) (place : ℕ) → HandsInEvent call event → EndsSo call reply (made event) → Brought event place p q → Does call reply p q
  faults : (event : Event) → HandsInEvent call event → EndsSo call reply failed → mine_of q ≡ mine_of p
      → (failed_of q ≡ failed_of p) ⊎ (failed_of q ≡ failed_of p ++ event ∷ []) → Does call reply p q

does_told : (slots : ℕ) (p q : RegistrySight) (call : RegistryCall) (reply : RegistryReply) (end : Ending) → ending call reply ≡ end → IsRegistryTold end slots call reply p q → Does call (Some reply) p q
does_told slots p q call reply (made event) is t =
    let due : event_by slots call (known_events t.1.before) ≡ Some event = ap (λ (r : RegistryReply). event_in (ending call r)) (sym t.2) ∙ ap event_in is in
    makes event t.0 (from_call slots call (known_events t.1.before) event due) is t.1
does_told slots p q call reply told is t = quiet t.1.0 t.1.2
does_told slots p q call reply failed is t = faults t.0 (from_call slots call (events_seen q) t.0 t.1) is t.3 t.4
does_told slots p q call reply wanting is t = quiet t.1.0 t.1.2

does : {D : Type 0} (disks : Ghosts D) (origin : StateView D) (p q : RegistrySight) (call : RegistryCall) (reply : Option RegistryReply) → IsReplied (CalledOnRegistry disks origin) MayWantNames p call reply q → Does call reply p q
does disks origin p q call (Some reply) called = does_told origin.slots p q call reply (ending call reply) refl called.legal.1
does disks origin p q call None wants = quiet wants.1.1.0 wants.1.1.2

-- ---- what calls brought

-- an event stands at this place that one of these calls handed in, and was told as made
pub record WasMade (calls : List SeenOnRegistry) (q : RegistrySight) (place : ℕ) : Type 0 where
  pub seen : SeenOnRegistry
  pub of_calls : IsIn seen calls
  pub event : Event
  pub handed_in : HandsInEvent seen.call event
  pub told : EndsSo seen.call seen.reply (made event)
  pub stands : StandsAt q place event

-- this event was told a fault of the disk
abbrev pub WasFaulted : List SeenOnRegistry → Event → Type 0
WasFaulted calls event = (seen : SeenOnRegistry) × IsIn seen calls × HandsInEvent seen.call event × EndsSo seen.call seen.reply failed

module _ {D : Type 0} (disks : Ghosts D) (origin : StateView D) where
  made_on : (first : SeenOnRegistry) (more : List SeenOnRegistry) (q : RegistrySight) (place : ℕ) → WasMade more q place → WasMade (first ∷ more) q place
  made_on first more q place was = record { seen = was.seen; of_calls = inr was.of_calls; event = was.event; handed_in = was.handed_in; told = was.told; stands = was.stands }

  place_of_first : (first : SeenOnRegistry) (more : List SeenOnRegistry) (q : RegistrySight) (place : ℕ) → AreSeenOnRegistry disks origin first.after more q → Does first.call first.reply first.before first.after → IsIn place (mine_of first.after) → IsIn place (mine_of first.before) ⊎ WasMade (first ∷ more) q place
  place_of_first first more q place are (quiet mine fails) i = inl (subst (IsIn place) mine i)
  place_of_first first more q place are (faults event from ends mine left) i = inl (subst (IsIn place) mine i)
  place_of_first first more q place are (makes event last from ends b) i = ⊎_elim (λ (j : IsIn place (mine_of first.before)). inl j)
      (λ (j : IsIn place (last ∷ [])).
      ⊎_elim (λ (same : place ≡ last). inr (record {
        seen = first;
        of_calls = inl refl;
        event = event;
        handed_in = from;
        told = ends;
        stands = stands_on first.after q place event (calls_go_on disks origin first.after q more are) (subst (λ (n : ℕ). StandsAt first.after n event) (sym same) (stands_brought first.before first.after event last b));
      })) (λ (none : ⊥). absurd none) j) (in_either (mine_of first.before) (last ∷ []) place (subst (IsIn place) b.mine i))

  -- a place of its own is one that it had, or one that was told as made
  pub place_told : (p q : RegistrySight) (calls : List SeenOnRegistry) (place : ℕ) → AreSeenOnRegistry disks origin p calls q → IsIn place (mine_of q) → IsIn place (mine_of p) ⊎ WasMade calls q place
  place_told p q [] place same i = inl (subst (λ (x : RegistrySight). IsIn place (mine_of x)) same i)
  place_told p q (first ∷ more) place are i = ⊎_elim
      (λ (j : IsIn place (mine_of first.after)). ⊎_elim (λ (k : IsIn place (mine_of first.before)). inl (subst (λ (x : RegistrySight). IsIn place (mine_of x)) are.0 k))
      (λ (was : WasMade (first ∷ more) q place). inr was)
      (place_of_first first more q place are.2 (does disks origin first.before first.after first.call first.reply are.1) j))
      (λ (was : WasMade more q place). inr (made_on first more q place was)) (place_told first.after q more place are.2 i)

  fault_of_first : (first : SeenOnRegistry) (more : List SeenOnRegistry) (event : Event) → Does first.call first.reply first.before first.after → IsIn event (failed_of first.after) → IsIn event (failed_of first.before) ⊎ WasFaulted (first ∷ more) event
  fault_of_first first more event (quiet mine fails) i = inl (subst (IsIn event) fails i)
  fault_of_first first more event (makes other last from ends b) i = inl (subst (IsIn event) b.failed i)
  fault_of_first first more event (faults other from ends mine left) i = ⊎_elim
      (λ (e : failed_of first.after ≡ failed_of first.before). inl (subst (IsIn event) e i))
      (λ (e : failed_of first.after ≡ failed_of first.before ++ other ∷ []). ⊎_elim (λ (j : IsIn event (failed_of first.before)). inl j)
      (λ (j : IsIn event (other ∷ [])). ⊎_elim (λ (same : event ≡ other). inr (first, inl refl, subst (HandsInEvent first.call) (sym same) from, ends)) (λ (none : ⊥). absurd none) j)
      (in_either (failed_of first.before) (other ∷ []) event (subst (IsIn event) e i))) left

  -- an event that it left in doubt is one that it had left, or one that was told a fault
  pub fault_told : (p q : RegistrySight) (calls : List SeenOnRegistry) (event : Event) → AreSeenOnRegistry disks origin p calls q → IsIn event (failed_of q) → IsIn event (failed_of p) ⊎ WasFaulted calls event
  fault_told p q [] event same i = inl (subst (λ (x : RegistrySight). IsIn event (failed_of x)) same i)
  fault_told p q (first ∷ more) event are i = ⊎_elim
      (λ (j : IsIn event (failed_of first.after)). ⊎_elim (λ (k : IsIn event (failed_of first.before)). inl (subst (λ (x : RegistrySight). IsIn event (failed_of x)) are.0 k))
      (λ (was : WasFaulted (first ∷ more) event). inr was)
      (fault_of_first first more event (does disks origin first.before first.after first.call first.reply are.1) j))
      (λ (was : WasFaulted more event). inr (was.0, inr was.1, was.2, was.3)) (fault_told first.after q more event are.2 i)

-- ---- amid a call

-- an event that the call handed in stands at this place
abbrev pub StandsHandedIn : RegistryCall → RegistrySight → ℕ → Type 0
StandsHandedIn call q place = (event : Event) × HandsInEvent call event × StandsAt q place event

place_done : (p q : RegistrySight) (call : RegistryCall) (place : ℕ) → HasDoneOnRegistry call p q → IsIn place (mine_of q) → IsIn place (mine_of p) ⊎ StandsHandedIn call q place
place_done p q call place (nothing mine fails) i = inl (subst (IsIn place) mine i)
place_done p q call place (doubted event from mine fails) i = inl (subst (IsIn place) mine i)
place_done p q call place (brought event last from b) i = ⊎_elim (λ (j : IsIn place (mine_of p)). inl j)
    (λ (j : IsIn place (last ∷ [])). ⊎_elim (λ (same : place ≡ last). inr (event, from, subst (λ (n : ℕ). StandsAt q n event) (sym same) (stands_brought p q event last b))) (λ (none : ⊥). absurd none) j)
    (in_either (mine_of p) (last ∷ []) place (subst (IsIn place) b.mine i))

fault_done : (p q : RegistrySight) (call : RegistryCall) (event : Event) → HasDoneOnRegistry call p q → IsIn event (failed_of q) → IsIn event (failed_of p) ⊎ HandsInEvent call event
fault_done p q call event (nothing mine fails) i = inl (subst (IsIn event) fails i)
fault_done p q call event (brought other last from b) i = inl (subst (IsIn event) b.failed i)
fault_done p q call event (doubted other from mine fails) i = ⊎_elim (λ (j : IsIn event (failed_of p)). inl j)
    (λ (j : IsIn event (other ∷ [])). ⊎_elim (λ (same : event ≡ other). inr (subst (HandsInEvent call) (sym same) from)) (λ (none : ⊥). absurd none) j)
    (in_either (failed_of p) (other ∷ []) event (subst (IsIn event) fails i))

pub place_amid : (p q : RegistrySight) (in_call : Option RegistryCall) (place : ℕ) → IsAmidOnRegistry p in_call q → IsIn place (mine_of q) → IsIn place (mine_of p) ⊎ ((call : RegistryCall) × (in_call ≡ Some call) × StandsHandedIn call q place)
place_amid p q None place same i = inl (subst (λ (x : RegistrySight). IsIn place (mine_of x)) same i)
place_amid p q (Some call) place amid i = ⊎_elim (λ (j : IsIn place (mine_of p)). inl j) (λ (there : StandsHandedIn call q place). inr (call, refl, there)) (place_done p q call place amid.1 i)

pub fault_amid : (p q : RegistrySight) (in_call : Option RegistryCall) (event : Event) → IsAmidOnRegistry p in_call q → IsIn event (failed_of q) → IsIn event (failed_of p) ⊎ ((call : RegistryCall) × (in_call ≡ Some call) × HandsInEvent call event)
fault_amid p q None event same i = inl (subst (λ (x : RegistrySight). IsIn event (failed_of x)) same i)
fault_amid p q (Some call) event amid i = ⊎_elim (λ (j : IsIn event (failed_of p)). inl j) (λ (from : HandsInEvent call event). inr (call, refl, from)) (fault_done p q call event amid.1 i)
