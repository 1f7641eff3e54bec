-- What was made is on the disk.
use Rattle.std.proofs.Common.{◌≡◌, ℕ, suc, ◌-◌, List, [], ◌∷◌, ◌++◌, length, length-append, Some, refl, sym, ap, ◌∙◌, subst, arith}
use Rattle.std.specs.Prelude.{slice_get, option_map}
use Rattle.std.proofs.lemmas.List.{map-append, length-map}
use Rattle.std.proofs.lemmas.Option.{slice_get-map}
use Rattle.disk_model.specs.declared.disk.Disk.{Ghosts}
use Rattle.disk_model.specs.Past.{EveryImage}
use Rattle.log_journal.specs.File.{Holds}
use Rattle.registry_core.specs.declared.event.Event.{Event}
use Rattle.registry_core.specs.Answers.{Ending, made, told}
use Rattle.registry_core.specs.Replies.{RegistryCall, create, rename, remove, resolve, resolve_id, resolve_uri, list, RegistryReply, ending, event_by}
use Rattle.registry_core.specs.Texts.{event_text, registry_payloads}
use Rattle.log_registry.specs.State.{StateView, events_in}
use Rattle.turn_cell.specs.declared.view.Known.{Known}
use Rattle.log_registry.specs.Changes.{Called}
use Rattle.log_registry.proofs.Writes.{kept}
use Rattle.turn_cell.specs.Knowing.{Brought, seen_of, pass_number}
use Rattle.shared_registry.specs.History.{RegistrySight, event_entry, event_history, known_events, events_seen, registry_fixed_of}
use Rattle.shared_registry.specs.Legal.{IsRegistryTold}
use Rattle.shared_registry.specs.Stays.{HasRegistryStay, CalledOnRegistry, IsEventOnDisk}
use Rattle.shared_registry.proofs.Histories.{known_history}

-- the last of a list
last_of : {A : Type 0} (front : List A) (x : A) → slice_get (front ++ x ∷ []) (length front) ≡ Some x
last_of [] x = refl
last_of (y ∷ front) x = last_of front x

module _ {D : Type 0} (disks : Ghosts D) (origin : StateView D) (p q : RegistrySight) (event : Event) where
  -- the registry that was left, whose images hold its events
  record Left : Type 0 where
    registry : StateView D
    file : registry_fixed_of disks.mark registry ≡ registry_fixed_of disks.mark origin
    sees : seen_of q ≡ event_history registry.entries
    images : disks.tells → EveryImage (disks.past registry.disk) (λ image. Holds image 0 (registry_payloads registry.slots (events_in registry)))

  no_event : {A : Type 0} → told ≡ made event → A
  no_event is = absurd (let e : told ≡ made event = is in cc)

  left_by : (call : RegistryCall) (reply : RegistryReply) (found left : StateView D) → registry_fixed_of disks.mark left ≡ registry_fixed_of disks.mark origin → seen_of q ≡ event_history left.entries → Called disks found left call (pass_number p) reply → ending call reply ≡ made event → Left
  left_by call reply found left file sees did is = record {
    registry = left;
    file = file;
    sees = sees;
    images = kept disks found left (event_by found.slots call (events_in found)) (pass_number p) (ending call reply) did.changed event is;
  }

  left_of : (call : RegistryCall) (reply : RegistryReply) → HasRegistryStay disks origin call reply p q → ending call reply ≡ made event → Left
  left_of (create name uri id) reply s is = left_by (create name uri id) reply s.found s.left s.left_fixed s.sees s.did is
  left_of (rename name new_name) reply s is = left_by (rename name new_name) reply s.found s.left s.left_fixed s.sees s.did is
  left_of (remove name) reply s is = left_by (remove name) reply s.found s.left s.left_fixed s.sees s.did is
  left_of (resolve name) reply s is = no_event is
  left_of (resolve_id id) reply s is = no_event is
  left_of (resolve_uri uri) reply s is = no_event is
  left_of list reply s is = no_event is

  module _ (place : ℕ) (came : Brought event place p q) (left : Left) where
    at : place ≡ suc (length came.before)
    at = let end = came.at_end in let sees = ap length came.sees in let both = length-append came.before (event_entry event p.view.number ∷ []) in omega (arith, end, sees, both)

    before_last : place - 1 ≡ length (known_events came.before)
    before_last = let is = at in let same = length-map came.before (λ (known : Known Event). known.content) in omega (arith, is, same)

    stands : slice_get (events_seen q) (place - 1) ≡ Some event
    stands = (λ i. slice_get ((ap known_events came.sees ∙ map-append (λ (known : Known Event). known.content) came.before (event_entry event p.view.number ∷ [])) i) (before_last i)) ∙ last_of (known_events came.before) event

    -- the payload of the event stands behind that of the slots
    payload : slice_get (registry_payloads left.registry.slots (events_in left.registry)) place ≡ Some (event_text event)
    payload =
        let next : place ≡ suc (place - 1) = let is = at in omega (arith, is) in
        let events : events_seen q ≡ events_in left.registry = ap known_events left.sees ∙ known_history left.registry.entries in
        ap (λ (n : ℕ). slice_get (registry_payloads left.registry.slots (events_in left.registry)) n) next
        ∙ (slice_get-map event_text (events_in left.registry) (place - 1) ∙ ap (option_map event_text) (ap (λ (l : List Event). slice_get l (place - 1)) (sym events) ∙ stands))

    on_disk : IsEventOnDisk disks origin place event q
    on_disk = record {
      registry = left.registry;
      file = left.file;
      sees = left.sees;
      stands_in_it = stands;
      images = λ tells image may. (registry_payloads left.registry.slots (events_in left.registry), left.images tells image may, payload);
    }

  pub made_on_disk : (call : RegistryCall) (reply : RegistryReply) → CalledOnRegistry disks origin p call reply q → ending call reply ≡ made event → (place : ℕ) × Brought event place p q × IsEventOnDisk disks origin place event q
  made_on_disk call reply called is =
      let t : IsRegistryTold (made event) origin.slots call reply p q = subst (λ (end : Ending). IsRegistryTold end origin.slots call reply p q) is called.legal.1 in
      (t.0, t.1, on_disk t.0 t.1 (left_of call reply called.stay is))
