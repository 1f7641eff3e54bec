-- From runs to the promise.
use Rattle.std.proofs.Common.{◌≡◌, ◌⊎◌, inl, inr, ⊎_elim, ℕ, List, [], ◌∷◌, ◌++◌, refl, sym, ◌∙◌, subst}
use mathlib.Core.List.{IsPrefix}
use Rattle.disk_model.specs.declared.disk.Disk.{Ghosts}
use Rattle.registry_core.specs.declared.event.Event.{Event}
use Rattle.log_registry.specs.State.{events_in}
use Rattle.turn_cell.specs.Turns.{IsIn}
use Rattle.turn_cell.specs.Sharing.{HasSeen}
use Rattle.turn_cell.specs.Knowing.{seen_of}
use Rattle.turn_cell.proofs.Views.{prefix_trans, prefix_refl}
use Rattle.turn_cell.proofs.Ends.{all_in}
use Rattle.turn_cell.proofs.Members.{in_either, one_of_mapped}
use Rattle.shared_registry.specs.History.{RegistrySight, event_history, known_events, events_seen, shared_registry}
use Rattle.shared_registry.proofs.Histories.{known_history}
use Rattle.registry_deployment.specs.Calls.{SeenOnRegistry}
use Rattle.registry_deployment.specs.History.{RegistryPassRun, IsRegistryIn, RegistryRun, HasCalledOnRegistry, IsRegistryRun, AreRegistryRuns, registry_left}
use Rattle.registry_deployment.specs.Promise.{IsGivenByEvents, EventWasBrought, KeepsRegistryPromise}
use Rattle.registry_deployment.proofs.Fronts.{events_go_on}
use Rattle.registry_deployment.proofs.Left.{MayStandNext, one_found, run_leaves, run_begins}
use Rattle.registry_deployment.proofs.Calling.{one_call, amid_on}
use Rattle.registry_deployment.proofs.Brought.{run_brings, next_brought}
use Rattle.registry_deployment.proofs.Given.{given, given_on}

module _ {D : Type 0} (disks : Ghosts D) (tells : disks.tells) where
  -- ---- the events from run to run

  -- what an image holds goes on in the run that is opened on it, with the same slots
  abbrev GoesOnIn : ℕ → List Event → RegistryRun D → Type 0
  GoesOnIn slots start run = (run.made.origin.slots ≡ slots) × IsPrefix start (events_in run.registry)

  opened_goes_on : (image : List ℕ) (slots : ℕ) (start : List Event) (run : RegistryRun D) → IsRegistryIn image slots start → IsRegistryRun disks image run → GoesOnIn slots start run
  opened_goes_on image slots start run found is =
      let same = one_found image run.made.origin.slots slots (events_in run.made.origin) start is.opened found in
      let history = is.at_stop.history in
      let grows : IsPrefix (known_events (event_history run.made.origin.entries)) (known_events (event_history run.registry.entries)) =
      events_go_on (event_history run.made.origin.entries) (event_history run.registry.entries) (history.0, sym history.1) in
      let plain : IsPrefix (events_in run.made.origin) (events_in run.registry) =
      subst (λ (z : List Event × List Event). IsPrefix z.0 z.1) (λ i. (known_history run.made.origin.entries i, known_history run.registry.entries i)) grows in
      (same.0, subst (λ (es : List Event). IsPrefix es (events_in run.registry)) same.1 plain)

  -- this registry begins that one, of as many slots
  abbrev Begins : ℕ → List Event → ℕ → List Event → Type 0
  Begins slots start last_slots last = (slots ≡ last_slots) × IsPrefix start last

  to_the_end : (image : List ℕ) (slots : ℕ) (start : List Event) (runs : List (RegistryRun D)) (last_slots : ℕ) (last : List Event) → IsRegistryIn image slots start → AreRegistryRuns disks image runs
      → IsRegistryIn (registry_left image runs) last_slots last → Begins slots start last_slots last
  to_the_end image slots start [] last_slots last found are ends =
      let same = one_found image slots last_slots start last found ends in
      (same.0, subst (IsPrefix start) same.1 (prefix_refl start))
  to_the_end image slots start (run ∷ more) last_slots last found are ends =
      let left = run_leaves disks tells image run are.0 in
      let first = opened_goes_on image slots start run found are.0 in
      let rest = to_the_end run.image run.made.origin.slots left.left more last_slots last left.found are.1 ends in
      (sym first.0 ∙ rest.0, prefix_trans start (events_in run.registry) last first.1 (prefix_trans (events_in run.registry) left.left last (run_begins disks tells image run are.0) rest.1))

  -- a run of the registry's life, on some image, and what it left begins the last registry
  abbrev LeavesFront : RegistryRun D → ℕ → List Event → Type 0
  LeavesFront run last_slots last = (on : List ℕ) × IsRegistryRun disks on run × ((slots : ℕ) (left : List Event) → IsRegistryIn run.image slots left → Begins slots left last_slots last)

  one_run : (image : List ℕ) (runs : List (RegistryRun D)) (last_slots : ℕ) (last : List Event) (run : RegistryRun D) → AreRegistryRuns disks image runs → IsRegistryIn (registry_left image runs) last_slots last → IsIn run runs → LeavesFront run last_slots last
  one_run image [] last_slots last run are ends i = absurd i
  one_run image (first ∷ more) last_slots last run are ends i = ⊎_elim
      (λ (e : run ≡ first). subst (λ (x : RegistryRun D). LeavesFront x last_slots last) (sym e) (image, are.0, λ slots left found. to_the_end first.image slots left more last_slots last found are.1 ends))
      (λ (j : IsIn run more). one_run first.image more last_slots last run are.1 ends j) i

  begins : (run : RegistryRun D) (last_slots : ℕ) (last : List Event) → LeavesFront run last_slots last → Begins run.made.origin.slots (events_in run.registry) last_slots last
  begins run last_slots last leaves =
      let left = run_leaves disks tells leaves.0 run leaves.1 in
      let rest = leaves.2 run.made.origin.slots left.left left.found in
      (rest.0, prefix_trans (events_in run.registry) left.left last (run_begins disks tells leaves.0 run leaves.1) rest.1)

  -- ---- where the events come from

  abbrev Comes : List (RegistryRun D) → List Event → Event → Type 0
  Comes runs start event = IsIn event start ⊎ ((run : RegistryRun D) × IsIn run runs × EventWasBrought run event)

  of_run : (image : List ℕ) (slots : ℕ) (start : List Event) (run : RegistryRun D) (more : List (RegistryRun D)) → IsRegistryIn image slots start → IsRegistryRun disks image run → (event : Event)
      → IsIn event (events_in run.made.origin) ⊎ EventWasBrought run event → Comes (run ∷ more) start event
  of_run image slots start run more found is event which = ⊎_elim
      (λ (i : IsIn event (events_in run.made.origin)).
      inl (subst (λ (es : List Event). IsIn event es) (one_found image run.made.origin.slots slots (events_in run.made.origin) start is.opened found).1 i))
      (λ (b : EventWasBrought run event). inr (run, inl refl, b)) which

  of_left : (image : List ℕ) (run : RegistryRun D) (is : IsRegistryRun disks image run) (event : Event) → IsIn event (run_leaves disks tells image run is).left → IsIn event (events_in run.made.origin) ⊎ EventWasBrought run event
  of_left image run is event i =
      let left = run_leaves disks tells image run is in
      let brings = run_brings disks tells image run is event in
      ⊎_elim (λ (e : left.left ≡ events_in run.registry). brings (subst (λ (es : List Event). IsIn event es) e i))
      (λ (z : (next : Event) × (left.left ≡ events_in run.registry ++ next ∷ []) × MayStandNext disks tells run next).
      ⊎_elim (λ (j : IsIn event (events_in run.registry)). brings j)
      (λ (j : IsIn event (z.0 ∷ [])). ⊎_elim (λ (same : event ≡ z.0). inr (subst (EventWasBrought run) (sym same) (next_brought disks tells image run is z.0 z.2))) (λ (none : ⊥). absurd none) j)
      (in_either (events_in run.registry) (z.0 ∷ []) event (subst (λ (es : List Event). IsIn event es) z.1 i))) left.which

  comes : (image : List ℕ) (slots : ℕ) (start : List Event) (runs : List (RegistryRun D)) (last_slots : ℕ) (last : List Event) → IsRegistryIn image slots start → AreRegistryRuns disks image runs
      → IsRegistryIn (registry_left image runs) last_slots last → (event : Event) → IsIn event last → Comes runs start event
  comes image slots start [] last_slots last found are ends event i = inl (subst (λ (es : List Event). IsIn event es) (one_found image last_slots slots last start ends found).1 i)
  comes image slots start (run ∷ more) last_slots last found are ends event i =
      let left = run_leaves disks tells image run are.0 in
      ⊎_elim (λ (j : IsIn event left.left). of_run image slots start run more found are.0 event (of_left image run are.0 event j))
      (λ (z : (later : RegistryRun D) × IsIn later more × EventWasBrought later event). inr (z.0, inr z.1, z.2))
      (comes run.image run.made.origin.slots left.left more last_slots last left.found are.1 ends event i)

  -- ---- replies

  abbrev Has : RegistryRun D → RegistrySight → Type 0
  Has run = HasSeen (shared_registry disks) run.registry

  replied : (on : List ℕ) (run : RegistryRun D) (slots : ℕ) (last : List Event) (pass : RegistryPassRun) (seen : SeenOnRegistry) → IsRegistryRun disks on run → Begins run.made.origin.slots (events_in run.registry) slots last → IsIn pass run.passes → IsIn seen pass.calls → IsGivenByEvents slots last seen
  replied on run slots last pass seen is grows i j =
      let called = all_in (HasCalledOnRegistry disks run.made) run.passes pass is.called i in
      let call = one_call disks run.made.origin called.given called.behind pass.calls seen called.calls j in
      let has : Has run pass.at_stop = one_of_mapped (Has run) (λ (p : RegistryPassRun). p.at_stop) run.passes pass is.at_stop.seen i in
      let known : IsPrefix (seen_of seen.after) (event_history run.registry.entries) =
      prefix_trans (seen_of seen.after) (seen_of called.behind) (event_history run.registry.entries) call.1
      (prefix_trans (seen_of called.behind) (seen_of pass.at_stop) (event_history run.registry.entries) (amid_on called.behind pass.at_stop pass.in_call called.amid) has.0) in
      let front : IsPrefix (events_seen seen.after) (events_in run.registry) = subst (IsPrefix (events_seen seen.after)) (known_history run.registry.entries) (events_go_on (seen_of seen.after) (event_history run.registry.entries) known) in
      subst (λ (n : ℕ). IsGivenByEvents n last seen) grows.0
      (given_on run.made.origin.slots (events_seen seen.after) last seen (prefix_trans (events_seen seen.after) (events_in run.registry) last front grows.1)
      (given disks run.made.origin seen.before seen.after seen.call seen.reply call.0))

  pub promise : (image : List ℕ) (runs : List (RegistryRun D)) (slots : ℕ) (last : List Event) → AreRegistryRuns disks image runs → IsRegistryIn (registry_left image runs) slots last → KeepsRegistryPromise image runs slots last
  promise image runs slots last are ends = record {
    is_registry = ends.registry;
    slots_stay = λ run i. (begins run slots last (one_run image runs slots last run are ends i)).0;
    runs_begin = λ run i. (begins run slots last (one_run image runs slots last run are ends i)).1;
    images_begin = λ run i found_slots left found. (one_run image runs slots last run are ends i).2 found_slots left found;
    replies = λ run i pass j seen k. let here = one_run image runs slots last run are ends i in replied here.0 run slots last pass seen here.1 (begins run slots last here) j k;
    brought = λ first_slots first found event i. comes image first_slots first runs slots last found are ends event i;
  }
