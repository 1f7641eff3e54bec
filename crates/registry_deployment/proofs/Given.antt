-- One call: its reply is one of a front of what the pass knew behind it.
use Rattle.std.proofs.Common.{◌≡◌, ℕ, List, [], ◌∷◌, ◌++◌, Option, Some, None, refl, sym, ◌∙◌, subst}
use mathlib.Core.List.{IsPrefix}
use Rattle.disk_model.specs.declared.disk.Disk.{Ghosts}
use Rattle.registry_core.specs.declared.event.Event.{Event}
use Rattle.registry_core.specs.Answers.{Ending, made, told, failed, wanting}
use Rattle.registry_core.specs.Replies.{RegistryCall, RegistryReply, ending, MayEnd, MayReply}
use Rattle.log_registry.specs.State.{StateView}
use Rattle.turn_cell.specs.Calls.{IsReplied}
use Rattle.turn_cell.specs.Knowing.{SeesOn, seen_of}
use Rattle.turn_cell.proofs.Views.{prefix_trans, prefix_refl}
use Rattle.shared_registry.specs.History.{RegistrySight, known_events, events_seen}
use Rattle.shared_registry.specs.Legal.{IsRegistryTold}
use Rattle.shared_registry.specs.Lookups.{MayWantNames}
use Rattle.shared_registry.specs.Stays.{CalledOnRegistry}
use Rattle.registry_deployment.specs.Calls.{EndsSo, SeenOnRegistry}
use Rattle.registry_deployment.specs.Promise.{IsGivenByEvents}
use Rattle.registry_deployment.proofs.Fronts.{one_more, events_go_on}
use Rattle.registry_deployment.proofs.Calling.{brought_events}

-- what is given is so in a list that goes on
pub given_on : (slots : ℕ) (events longer : List Event) (seen : SeenOnRegistry) → IsPrefix events longer → IsGivenByEvents slots events seen → IsGivenByEvents slots longer seen
given_on slots events longer seen grows given = record {
  point = given.point;
  of_events = prefix_trans given.point events longer given.of_events grows;
  had_seen = given.had_seen;
  seen_then = given.seen_then;
  gives = given.gives;
  stands = λ event ends. prefix_trans (given.point ++ event ∷ []) events longer (given.stands event ends) grows;
}

module _ (slots : ℕ) (p q : RegistrySight) (on : SeesOn p q) where
  abbrev Of : RegistryCall → Option RegistryReply → SeenOnRegistry
  Of call reply = record { before = p; call = call; reply = reply; after = q }

  abbrev Given : RegistryCall → Option RegistryReply → Type 0
  Given call reply = IsGivenByEvents slots (events_seen q) (Of call reply)

  before : IsPrefix (events_seen p) (events_seen q)
  before = events_go_on (seen_of p) (seen_of q) on.2

  -- what the pass then knows may give the reply, which tells no event
  by_now : (call : RegistryCall) (reply : Option RegistryReply) → ((r : RegistryReply) → reply ≡ Some r → MayReply slots call (events_seen q) r) → ((event : Event) → EndsSo call reply (made event) → ⊥) → Given call reply
  by_now call reply gives none = record {
    point = events_seen q;
    of_events = prefix_refl (events_seen q);
    had_seen = before;
    seen_then = prefix_refl (events_seen q);
    gives = gives;
    stands = λ event ends. absurd (none event ends);
  }

  -- a reply that ends the call so
  one_reply : (call : RegistryCall) (reply : RegistryReply) (end : Ending) (point : List Event) → ending call reply ≡ end → MayEnd end slots call point reply → (r : RegistryReply) → Some reply ≡ Some r → MayReply slots call point r
  one_reply call reply end point is may r same =
      let one : reply ≡ r = cc in
      subst (λ (x : RegistryReply). MayReply slots call point x) one (subst (λ (e : Ending). MayEnd e slots call point reply) (sym is) may)

  tells : (call : RegistryCall) (reply : RegistryReply) (end : Ending) → ending call reply ≡ end → IsRegistryTold end slots call reply p q → Given call (Some reply)
  tells call reply (made event) is t =
      let point = known_events t.1.before in
      let all = brought_events p q event t.0 t.1 in
      let front : IsPrefix point (events_seen q) = subst (IsPrefix point) (sym all) (one_more point event) in
      record {
        point = point;
        of_events = front;
        had_seen = events_go_on (seen_of p) t.1.before t.1.had_seen;
        seen_then = front;
        gives = one_reply call reply (made event) point is t.2;
        stands = λ other ends.
            let both : made event ≡ made other = sym is ∙ ends in
            let one : event ≡ other = cc in
            subst (λ (e : Event). IsPrefix (point ++ e ∷ []) (events_seen q)) one (subst (IsPrefix (point ++ event ∷ [])) (sym all) (prefix_refl (point ++ event ∷ [])));
      }
  tells call reply told is t = by_now call (Some reply) (one_reply call reply told (events_seen q) is t.0) (λ event ends. let no : told ≡ made event = sym is ∙ ends in cc)
  tells call reply failed is t = by_now call (Some reply) (one_reply call reply failed (events_seen q) is (t.0, t.1)) (λ event ends. let no : failed ≡ made event = sym is ∙ ends in cc)
  tells call reply wanting is t = by_now call (Some reply) (one_reply call reply wanting (events_seen q) is t.0) (λ event ends. let no : wanting ≡ made event = sym is ∙ ends in cc)

  silent : (call : RegistryCall) → Given call None
  silent call = by_now call None (λ r same. absurd (cc)) (λ event ends. ends)

pub given : {D : Type 0} (disks : Ghosts D) (origin : StateView D) (p q : RegistrySight) (call : RegistryCall) (reply : Option RegistryReply) → IsReplied (CalledOnRegistry disks origin) MayWantNames p call reply q
    → IsGivenByEvents origin.slots (events_seen q) (record { before = p; call = call; reply = reply; after = q })
given disks origin p q call None wants = silent origin.slots p q wants.1.0 call
given disks origin p q call (Some reply) called = tells origin.slots p q called.legal.0 call reply (ending call reply) refl called.legal.1
