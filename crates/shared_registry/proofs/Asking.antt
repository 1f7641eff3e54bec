-- What a pass is told that only looks sources up.
use Rattle.std.proofs.Common.{◌≡◌, ◌⊎◌, ℕ, List, length, Option, Some, None, ap, sym, ◌∙◌, subst, refl, ⊎_elim, inl, inr}
use Rattle.std.specs.Prelude.{IfSome}
use Rattle.std.specs.List.{AllByRecursion}
use mathlib.Core.List.{IsPrefix}
use Rattle.disk_model.specs.declared.disk.Disk.{Ghosts}
use Rattle.log_base.specs.declared.source_info.SourceInfo.{SourceInfo}
use Rattle.registry_core.specs.declared.event.Event.{Event}
use Rattle.registry_core.specs.Answers.{Ending, told}
use Rattle.registry_core.specs.Replies.{RegistryCall, RegistryReply, registry_reply, ending}
use Rattle.registry_core.specs.Sources.{sources, HasSlot}
use Rattle.log_registry.specs.State.{StateView, events_in}
use Rattle.turn_cell.specs.Turns.{own_count, Adds}
use Rattle.turn_cell.specs.Sights.{Made, Taken}
use Rattle.turn_cell.specs.Knowing.{IsSame, Wants, IsQuiet, pass_number, seen_of}
use Rattle.turn_cell.specs.Sharing.{IsPassOf, EntersTurn, LeavesTurn, InTurn, FoundInTurn}
use Rattle.turn_cell.proofs.Knowing.{quiet_on}
use Rattle.turn_cell.proofs.Staying.{finds, stay_told}
use Rattle.turn_cell.proofs.Views.{prefix_trans}
use Rattle.shared_registry.specs.declared.names.Names.{Names}
use Rattle.shared_registry.specs.declared.value.RegistryFixed.{RegistryFixed}
use Rattle.shared_registry.specs.History.{RegistrySight, event_history, known_events, events_seen, registry_fixed_of, shared_registry}
use Rattle.shared_registry.specs.Legal.{IsRegistryTold}
use Rattle.shared_registry.specs.Names.{AreNamesOf, HasNames}
use Rattle.shared_registry.specs.Stays.{AsksRegistry, DoesOnRegistry, LooksUpOnRegistry, HasRegistryStay, CalledOnRegistry}
use Rattle.shared_registry.proofs.Histories.{known_history, history_length}

module _ {D : Type 0} (disks : Ghosts D) where
  -- the names that were found in the turn
  pub names_found : (names : Names) (p m q : RegistrySight) (held : Taken Event Event RegistryFixed (StateView D)) → EntersTurn (shared_registry disks) p held m → LeavesTurn (shared_registry disks) m held q → (registry : StateView D) → registry ≡ held.value
      → names.count ≡ length registry.entries → names.living.items ≡ sources (events_in registry) → AllByRecursion (HasSlot registry.slots) names.living.items → AreNamesOf names q
  names_found names p m q held enters leaves registry is count living slots =
      let entries : event_history registry.entries ≡ q.view.seen = ap (λ (r : StateView D). event_history r.entries) is ∙ sym leaves.sees in
      record {
        count_is = count ∙ sym (history_length registry.entries) ∙ ap length entries;
        living_is = living ∙ ap sources (sym (known_history registry.entries) ∙ ap known_events entries);
        slots = λ f at.
            let one : registry_fixed_of disks.mark registry ≡ registry_fixed_of disks.mark held.was = ap (λ (r : StateView D). registry_fixed_of disks.mark r) (is ∙ enters.value) in
            let both : Some (registry_fixed_of disks.mark held.was) ≡ Some f = sym enters.from.2 ∙ (sym leaves.same.0.3 ∙ at) in
            let fixed : registry_fixed_of disks.mark held.was ≡ f = cc in
            subst (λ (n : ℕ). AllByRecursion (HasSlot n) names.living.items) (ap (λ (f : RegistryFixed). f.slots) (one ∙ fixed)) slots;
      }

  -- a stay behind a count
  earlier : (Did : StateView D → StateView D → Type 0) (origin : StateView D) (p m q : RegistrySight) → IsQuiet p m → IsPrefix (seen_of p) (seen_of m) → InTurn (shared_registry disks) Did origin m q → InTurn (shared_registry disks) Did origin p q
  earlier Did origin p m q quiet longer s = record {
    found = s.found;
    left = s.left;
    found_stands = s.found_stands;
    left_stands = s.left_stands;
    did = s.did;
    found_fixed = s.found_fixed;
    left_fixed = s.left_fixed;
    had_seen = prefix_trans (seen_of p) (seen_of m) (event_history s.found.entries) longer s.had_seen;
    sees = s.sees;
    own_faults = ⊎_elim (λ (still : IsQuiet m q). inl (quiet_on p m q quiet still))
        (λ (counts : q.view.own_faults ≡ own_count m.view.own_faults (disks.faults s.found.disk) (disks.faults s.left.disk)). inr (counts ∙ (λ i. own_count (quiet.1 i) (disks.faults s.found.disk) (disks.faults s.left.disk)))) s.own_faults;
    failed = subst (λ (l : List Event). Adds s.found.doubt s.left.doubt l q.view.failed) quiet.2 s.failed;
  }

  -- the pass counted, and then only asked in the turn
  pub behind : (origin : Made (StateView D)) (p m n q : RegistrySight) (held : Taken Event Event RegistryFixed (StateView D)) → IsPassOf (shared_registry disks) origin p → IsSame p m × (m.view.stage ≡ p.view.stage) × (m.view.list ≡ p.view.list) → IsQuiet p m → IsPrefix (seen_of p) (seen_of m)
      → EntersTurn (shared_registry disks) m held n → LeavesTurn (shared_registry disks) n held q → FoundInTurn (shared_registry disks) origin.origin p q
  behind origin p m n q held of same quiet longer enters leaves =
      let Kept : StateView D → StateView D → Type 0 = λ found left. left ≡ found in
      earlier Kept origin.origin p m q quiet longer
      (stay_told (shared_registry disks) m n q held.was held (finds (shared_registry disks) m n held enters) leaves refl Kept origin (same.0.0 ∙ of.0, (same.1 ∙ of.1.0, same.2 ∙ of.1.1), same.0.3 ∙ of.2) enters.value (λ i. registry_fixed_of disks.mark (enters.value i)))

  -- a look-up that replies what the pass then has seen
  pub looked_up : (origin : StateView D) (p q : RegistrySight) (call : RegistryCall) (reply : RegistryReply) → Wants p q → FoundInTurn (shared_registry disks) origin p q ⊎ (seen_of q ≡ seen_of p)
      → ending call reply ≡ told → reply ≡ registry_reply origin.slots call (events_seen q)
      → ((found left : StateView D) → AsksRegistry disks call reply found left → DoesOnRegistry disks (pass_number p) call reply found left) → (LooksUpOnRegistry disks origin call reply p q → HasRegistryStay disks origin call reply p q) → CalledOnRegistry disks origin p call reply q
  looked_up origin p q call reply wants stay tells is does has = record {
    legal = (wants.0, subst (λ (end : Ending). IsRegistryTold end origin.slots call reply p q) (sym tells) (is, wants.1));
    stay = has (⊎_elim (λ (s : FoundInTurn (shared_registry disks) origin p q). inl (record {
      found = s.found;
      left = s.left;
      found_stands = s.found_stands;
      left_stands = s.left_stands;
      did = does s.found s.left (
        s.did,
        let events : events_seen q ≡ events_in s.found = ap known_events s.sees ∙ known_history s.left.entries ∙ ap (λ (r : StateView D). events_in r) s.did in
            let slots : origin.slots ≡ s.found.slots = sym (ap (λ (f : RegistryFixed). f.slots) s.found_fixed) in
            is ∙ (λ i. registry_reply (slots i) call (events i)),
      );
      found_fixed = s.found_fixed;
      left_fixed = s.left_fixed;
      had_seen = s.had_seen;
      sees = s.sees;
      own_faults = s.own_faults;
      failed = s.failed;
    })) (λ (same : seen_of q ≡ seen_of p). inr (wants, same)) stay);
  }

-- the sources that are kept are those of what the pass has seen
pub living_seen : (names : Option Names) (q : RegistrySight) (items : List SourceInfo) → HasNames names q → IfSome names (λ kept. items ≡ kept.living.items) → items ≡ sources (events_seen q)
living_seen None q items has is = absurd has
living_seen (Some kept) q items has is = is ∙ has.living_is
