-- A hall is found again over what a stop left of its disks.
use Rattle.std.proofs.Common.{◌≡◌, ℕ, ◌+◌, List, [], ◌∷◌, map, Option, Some, None, sym, ap, ◌∙◌, subst, ⊎_elim, append-nil, refl}
use Rattle.std.proofs.lemmas.List.{map-append}
use mathlib.Core.List.{IsPrefix}
use Rattle.log_base.specs.OneMore.{with_one_more}
use Rattle.log_journal.specs.File.{Holds}
use Rattle.patch_log.specs.Log.{payloads_of}
use Rattle.log_base.specs.declared.limits.TheConstants.{LOG_LIMITS}
use Rattle.disk_model.specs.Past.{reads, MayLeave}
use Rattle.disk_model.specs.declared.disk.Disk.{Ghosts}
use Rattle.chain_core.specs.declared.chain.Patch.{Patch}
use Rattle.chain_core.specs.Runs.{patches_in}
use Rattle.chain_core.proofs.Runs.{patches_in-push, patches_in-runs}
use Rattle.registry_core.specs.declared.event.Event.{Event}
use Rattle.log_registry.specs.State.{StateView, events_in}
use Rattle.log_registry.proofs.Reopened as registries
use Rattle.patch_log.specs.State.{LogView, runs_in}
use Rattle.patch_log.proofs.Reopened as logs
use Rattle.turn_cell.specs.declared.view.Known.{Known}
use Rattle.turn_cell.specs.Sights.{Made}
use Rattle.turn_cell.specs.Sharing.{HasSeen}
use Rattle.turn_cell.specs.Knowing.{seen_of}
use Rattle.turn_cell.proofs.Views.{all_map, prefix_trans}
use Rattle.shared_log.specs.declared.value.LogFixed.{LogFixed}
use Rattle.shared_log.specs.declared.value.Placed.{Placed}
use Rattle.shared_log.specs.History.{LogSight, history_of, patches_known, shared_log}
use Rattle.shared_log.proofs.Histories.{known_chain}
use Rattle.shared_registry.specs.History.{RegistrySight, event_history, events_seen, shared_registry}
use Rattle.shared_registry.proofs.Histories.{known_history}
use Rattle.hall_logs.specs.Ends.{parts_at, Ends, AreEnded}
use Rattle.hall_logs.specs.Files.{IsOpened, AreOpened}
use Rattle.delta_session.specs.Again.{IsFoundAgain, AreImages, FindsRegistry, FindsLog, FindsLogs, FindsHall}
use Rattle.delta_session.specs.Ends.{EndsRegistry, IsEnded}
use Rattle.delta_session.specs.Opening.{IsOpenedRegistry, IsOpenedHall}
use Rattle.delta_session.specs.Steps.{HallView, HallSight}

module _ {A : Type 0} where
  longer : (was : List A) (doubt : Option A) → IsPrefix was (with_one_more was doubt)
  longer was None = ([], append-nil was)
  longer was (Some more) = (more ∷ [], refl)

  -- all that a list gives goes on where it is found with one more
  begins : {B : Type 0} (all : List A → List B) (seen : List B) (was : List A) (doubt : Option A) (found : List A) → IsPrefix (all was) (all (with_one_more was doubt)) → IsFoundAgain was doubt found → IsPrefix seen (all was) → IsPrefix seen (all found)
  begins all seen was doubt found more again front = ⊎_elim
      (λ (e : found ≡ was). subst (λ (l : List A). IsPrefix seen (all l)) (sym e) front)
      (λ (e : found ≡ with_one_more was doubt). subst (λ (l : List A). IsPrefix seen (all l)) (sym e) (prefix_trans seen (all was) (all (with_one_more was doubt)) front more)) again

  map_prefix : {B : Type 0} (f : A → B) (a b : List A) → IsPrefix a b → IsPrefix (map f a) (map f b)
  map_prefix f a b p = (map f p.0, sym (map-append f a p.0) ∙ ap (map f) p.1)

longer_in : (was : List (List Patch)) (doubt : Option (List Patch)) → IsPrefix (patches_in was) (patches_in (with_one_more was doubt))
longer_in was None = ([], append-nil (patches_in was))
longer_in was (Some run) = (run, sym (patches_in-push was run))

module _ {D : Type 0} (disks : Ghosts D) (told : disks.tells) where
  finds_registry : (made : Made (StateView D)) (passes : List RegistrySight) (left again : D) (opened : StateView D) → EndsRegistry disks made passes left → MayLeave (disks.past left) (reads (disks.past again)) → IsOpenedRegistry disks again opened
      → FindsRegistry disks made passes (events_in opened)
  finds_registry made passes left again opened ends may is =
      let was = ends.registry in
      let image = subst (λ (d : D). MayLeave (disks.past d) (reads (disks.past again))) ends.disk_is may in
      let found = (registries.found_again (disks.past was.disk) was.slots opened.slots (events_in was) (events_in opened) was.doubt (reads (disks.past again)) (ends.closed.stands told) image (is.file told) is.sound).1 in record {
        closed = was;
        is = ends.closed;
        again = found;
        seen = all_map (HasSeen (shared_registry disks) was) (λ (p : RegistrySight). IsPrefix (events_seen p) (events_in opened))
            (λ p knew. begins (λ (l : List Event). l) (events_seen p) (events_in was) was.doubt (events_in opened) (longer (events_in was) was.doubt) found
            (subst (IsPrefix (events_seen p)) (known_history was.entries) (map_prefix (λ (known : Known Event). known.content) (seen_of p) (event_history was.entries) knew.0))) passes ends.closed.seen;
      }

  finds_log : (number : ℕ) (made : Made (LogView D)) (parts : List LogSight) (left again : D) (opened : LogView D) → made.origin.number ≡ number → Ends disks made parts left → MayLeave (disks.past left) (reads (disks.past again)) → IsOpened disks LOG_LIMITS number again opened
      → FindsLog disks made parts (runs_in opened)
  finds_log number made parts left again opened number_is ends may is =
      let was = ends.log in
      let image = subst (λ (d : D). MayLeave (disks.past d) (reads (disks.past again))) ends.disk_is may in
      let same : number ≡ was.number = sym number_is ∙ ap (λ (f : LogFixed). f.number) (sym ends.closed.fixed) in
      let found = logs.found_again (disks.past was.disk) was.number was.limits (runs_in was) (runs_in opened) was.doubt (reads (disks.past again)) (ends.closed.stands.stands told) image
      (subst (λ (n : ℕ). Holds (reads (disks.past again)) n (payloads_of (runs_in opened))) same (is.file told)) is.sound.sound in record {
        closed = was;
        is = ends.closed;
        again = found;
        seen = all_map (HasSeen (shared_log disks) was) (λ (p : LogSight). IsPrefix (patches_known (seen_of p)) (patches_in (runs_in opened)))
            (λ p knew. begins patches_in (patches_known (seen_of p)) (runs_in was) was.doubt (runs_in opened) (longer_in (runs_in was) was.doubt) found
            (subst (IsPrefix (patches_known (seen_of p))) (known_chain was.entries ∙ sym (patches_in-runs was.entries)) (map_prefix (λ (known : Known Placed). known.content.patch) (seen_of p) (history_of was.entries) knew.0))) parts ends.closed.seen;
      }

  finds_logs : (place : ℕ) (made : List (Made (LogView D))) (passes : List (List LogSight)) (first left again : List D) (opened : List (LogView D)) → AreOpened disks LOG_LIMITS (place + 1) first (map (λ (log : Made (LogView D)). log.origin) made) → AreEnded disks place made passes left
      → AreImages disks left again → AreOpened disks LOG_LIMITS (place + 1) again opened → FindsLogs disks place made passes opened
  finds_logs place [] passes first [] [] [] were ends images are = tt
  finds_logs place [] passes first [] [] (o ∷ opened) were ends images are = absurd are
  finds_logs place [] passes first [] (a ∷ again) opened were ends images are = absurd images
  finds_logs place [] passes first (l ∷ left) again opened were ends images are = absurd ends
  finds_logs place (m ∷ made) passes [] left again opened were ends images are = absurd were
  finds_logs place (m ∷ made) passes (f ∷ first) [] again opened were ends images are = absurd ends
  finds_logs place (m ∷ made) passes (f ∷ first) (l ∷ left) [] opened were ends images are = absurd images
  finds_logs place (m ∷ made) passes (f ∷ first) (l ∷ left) (a ∷ again) [] were ends images are = absurd are
  finds_logs place (m ∷ made) passes (f ∷ first) (l ∷ left) (a ∷ again) (o ∷ opened) were ends images are =
      (finds_log (place + 1) m (parts_at place passes) l a o were.0.settled.1 ends.0 images.0 are.0, finds_logs (place + 1) made passes first left again opened were.1 ends.1 images.1 are.1)

  pub finds_hall : (first left again : List D) (hall opened : HallView D) (passes : List HallSight) → IsOpenedHall disks first hall → IsEnded disks hall passes left → AreImages disks left again → IsOpenedHall disks again opened → FindsHall disks hall passes opened
  finds_hall [] left again hall opened passes was ends images is = absurd was
  finds_hall (f ∷ first) [] again hall opened passes was ends images is = absurd ends
  finds_hall (f ∷ first) (l ∷ left) [] hall opened passes was ends images is = absurd images
  finds_hall (f ∷ first) (l ∷ left) (a ∷ again) hall opened passes was ends images is = record {
    registry = finds_registry hall.registry (map (λ (pass : HallSight). pass.lists.registry) passes) l a opened.registry.origin ends.0 images.0 is.0;
    logs = finds_logs 0 hall.logs.logs (map (λ (pass : HallSight). pass.lists.logs) passes) first left again (map (λ (log : Made (LogView D)). log.origin) opened.logs.logs) was.1 ends.1 images.1 is.1;
  }
