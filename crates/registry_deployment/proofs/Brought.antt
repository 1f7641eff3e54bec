-- Where the events of a run come from.
use Rattle.std.proofs.Common.{◌≡◌, ◌⊎◌, inl, inr, ⊎_elim, ℕ, suc, ◌+◌, ◌<◌, ◌≤◌, List, ◌++◌, length, Option, Some, None, sym, ◌∙◌, ap, subst, arith}
use Rattle.std.specs.Prelude.{slice_get}
use Rattle.disk_model.specs.declared.disk.Disk.{Ghosts}
use Rattle.registry_core.specs.declared.event.Event.{Event}
use Rattle.registry_core.specs.Answers.{made}
use Rattle.registry_core.specs.Replies.{RegistryCall}
use Rattle.log_registry.specs.State.{events_in}
use Rattle.turn_cell.specs.declared.view.Known.{Known}
use Rattle.turn_cell.specs.Turns.{IsIn, AllOf, places_by}
use Rattle.turn_cell.specs.Sights.{ComesFrom}
use Rattle.turn_cell.specs.Sharing.{HasSeen}
use Rattle.turn_cell.specs.Knowing.{pass_number, seen_of, mine_of, failed_of}
use Rattle.turn_cell.proofs.Ends.{all_in}
use Rattle.turn_cell.proofs.Members.{in_either, one_of_mapped, unmapped, all_got, in_none, got_behind, place_in}
use Rattle.shared_registry.specs.History.{RegistrySight, event_history, known_events, events_seen, shared_registry}
use Rattle.shared_registry.proofs.Histories.{known_history}
use Rattle.registry_deployment.specs.Calls.{HandsInEvent, EndsSo}
use Rattle.registry_deployment.specs.History.{RegistryPassRun, UnansweredChange, RegistryRun, HasCalledOnRegistry, IsChangeUnderWay, LeavesRegistry, IsRegistryRun, registry_sights}
use Rattle.registry_deployment.specs.Promise.{EventWasBrought, acknowledged, in_doubt, unanswered}
use Rattle.registry_deployment.proofs.Fronts.{got_in, events_append, events_go_on, in_history, got_event}
use Rattle.registry_deployment.proofs.Left.{MayStandNext, from_call}
use Rattle.registry_deployment.proofs.Calling.{amid_on, WasMade, WasFaulted, place_told, fault_told, StandsAt, StandsHandedIn, place_amid, fault_amid}

module _ {D : Type 0} (disks : Ghosts D) (tells : disks.tells) (on : List ℕ) (run : RegistryRun D) (is : IsRegistryRun disks on run) where
  abbrev Before : List (Known Event)
  Before = event_history run.made.origin.entries

  abbrev Now : List (Known Event)
  Now = event_history run.registry.entries

  called : (pass : RegistryPassRun) → IsIn pass run.passes → HasCalledOnRegistry disks run.made pass
  called pass i = all_in (HasCalledOnRegistry disks run.made) run.passes pass is.called i

  some_is : (a b : Event) → Some a ≡ Some b → a ≡ b
  some_is a b e = cc

  abbrev Has : RegistrySight → Type 0
  Has = HasSeen (shared_registry disks) run.registry

  -- what stands at a place of a pass's own is what a call of it handed in
  of_place : (pass : RegistryPassRun) → IsIn pass run.passes → (k : ℕ) (event : Event) → IsIn (suc k) (mine_of pass.at_stop) → slice_get (known_events Now) k ≡ Some event → EventWasBrought run event
  of_place pass i k event mine at =
      let by = called pass i in
      let seen : Has pass.at_stop = one_of_mapped Has (λ (p : RegistryPassRun). p.at_stop) run.passes pass is.at_stop.seen i in
      let same : (other : Event) → StandsAt pass.at_stop (suc k) other → other ≡ event =
      λ other stands.
      let here : stands.0 ≡ k = let is_at = stands.1 in omega (arith, is_at) in
      let got : slice_get (events_seen pass.at_stop) k ≡ Some other = subst (λ (n : ℕ). slice_get (events_seen pass.at_stop) n ≡ Some other) here stands.2 in
      some_is other event (sym (got_in (events_seen pass.at_stop) (known_events Now) k other (events_go_on (seen_of pass.at_stop) Now seen.0) got) ∙ at) in
      let on_to = events_go_on (seen_of by.behind) (seen_of pass.at_stop) (amid_on by.behind pass.at_stop pass.in_call by.amid) in
      ⊎_elim (λ (j : IsIn (suc k) (mine_of by.behind)). ⊎_elim
      (λ (n : IsIn (suc k) (mine_of by.given)). absurd (in_none (suc k) (mine_of by.given) by.is_given.3 n))
      (λ (was : WasMade pass.calls by.behind (suc k)).
      let one : was.event ≡ event = same was.event (was.stands.0, was.stands.1, got_in (events_seen by.behind) (events_seen pass.at_stop) was.stands.0 was.event on_to was.stands.2) in
      acknowledged pass i was.seen was.of_calls (subst (HandsInEvent was.seen.call) one was.handed_in) (subst (λ (e : Event). EndsSo was.seen.call was.seen.reply (made e)) one was.told))
      (place_told disks run.made.origin by.given by.behind pass.calls (suc k) by.calls j))
      (λ (z : (call : RegistryCall) × (pass.in_call ≡ Some call) × StandsHandedIn call pass.at_stop (suc k)).
      let there = z.2 in
      let one : there.0 ≡ event = same there.0 there.2 in
      unanswered pass i z.0 z.1 (subst (HandsInEvent z.0) one there.1)) (place_amid by.behind pass.at_stop pass.in_call (suc k) by.amid mine)

  -- and so is an event that a pass left in doubt
  of_fault : (pass : RegistryPassRun) → IsIn pass run.passes → (event : Event) → IsIn event (failed_of pass.at_stop) → EventWasBrought run event
  of_fault pass i event left =
      let by = called pass i in
      ⊎_elim (λ (j : IsIn event (failed_of by.behind)). ⊎_elim
      (λ (n : IsIn event (failed_of by.given)). absurd (in_none event (failed_of by.given) by.is_given.6 n))
      (λ (was : WasFaulted pass.calls event). in_doubt pass i was.0 was.1 was.2 was.3)
      (fault_told disks run.made.origin by.given by.behind pass.calls event by.calls j))
      (λ (z : (call : RegistryCall) × (pass.in_call ≡ Some call) × HandsInEvent call event). unanswered pass i z.0 z.1 z.2) (fault_amid by.behind pass.at_stop pass.in_call event by.amid left)

  -- an entry behind those that were found is of a pass
  later_brought : (later : List (Known Event)) → Now ≡ Before ++ later → AllOf (λ (e : Known Event). (0 < e.by) × (e.by ≤ run.made.seats)) later → (event : Event) → IsIn event (known_events later) → EventWasBrought run event
  later_brought later same by event i =
      let there = in_history later event i in
      let k = length Before + there.0 in
      let got : slice_get Now k ≡ Some there.1 = ap (λ (h : List (Known Event)). slice_get h k) same ∙ got_behind Before later there.0 there.1 there.2 in
      let of = all_got (λ (e : Known Event). (0 < e.by) × (e.by ≤ run.made.seats)) later there.0 there.1 by there.2 in
      let who = is.all_there there.1.by of.0 of.1 in
      let pass = unmapped (λ (p : RegistryPassRun). p.at_stop) run.passes who.0 who.1 in
      let seen : Has pass.0.at_stop = one_of_mapped Has (λ (p : RegistryPassRun). p.at_stop) run.passes pass.0 is.at_stop.seen pass.1 in
      let named : there.1.by ≡ pass_number pass.0.at_stop = sym who.2 ∙ ap (λ (p : RegistrySight). p.view.number) pass.2 in
      let at : IsIn (suc k) (places_by (pass_number pass.0.at_stop) Now) = place_in 1 (pass_number pass.0.at_stop) Now k there.1 (suc k) got named (omega arith) in
      of_place pass.0 pass.1 k event (subst (IsIn (suc k)) seen.1 at) (got_event Now k there.1 got ∙ ap (λ (e : Event). Some e) (sym there.3))

  pub run_brings : (event : Event) → IsIn event (events_in run.registry) → IsIn event (events_in run.made.origin) ⊎ EventWasBrought run event
  run_brings event i =
      let history = is.at_stop.history in
      let parts : known_events Now ≡ known_events Before ++ known_events history.0 = ap known_events history.1 ∙ events_append Before history.0 in
      let here : IsIn event (known_events Before ++ known_events history.0) = subst (λ (es : List Event). IsIn event es) (sym (known_history run.registry.entries) ∙ parts) i in
      ⊎_elim (λ (j : IsIn event (known_events Before)). inl (subst (λ (es : List Event). IsIn event es) (known_history run.made.origin.entries) j))
      (λ (j : IsIn event (known_events history.0)). inr (later_brought history.0 history.1 history.2 event j)) (in_either (known_events Before) (known_events history.0) event here)

  of_pass : (event : Event) (first : Option Event) → first ≡ None → ComesFrom first (registry_sights run) (Some event) → EventWasBrought run event
  of_pass event first none comes = ⊎_elim (λ (e : first ≡ Some event). absurd (cc))
      (λ (z : (p : RegistrySight) × IsIn p (registry_sights run) × IsIn event p.view.failed).
      let pass = unmapped (λ (p : RegistryPassRun). p.at_stop) run.passes z.0 z.1 in
      of_fault pass.0 pass.1 event (subst (λ (p : RegistrySight). IsIn event p.view.failed) pass.2 z.2)) comes

  of_change : (under_way : Option (UnansweredChange D)) (change : UnansweredChange D) (image : List ℕ) → under_way ≡ Some change → LeavesRegistry disks run.passes run.registry under_way image → IsChangeUnderWay disks run.passes run.registry change
  of_change None change image same left = absurd (cc)
  of_change (Some other) change image same left = let one : other ≡ change = cc in subst (IsChangeUnderWay disks run.passes run.registry) one left.0

  -- and so is an event that may stand next
  pub next_brought : (event : Event) → MayStandNext disks tells run event → EventWasBrought run event
  next_brought event may = ⊎_elim
      (λ (e : run.registry.doubt ≡ Some event). of_pass event run.made.origin.doubt is.settled
      (subst (λ (d : Option Event). ComesFrom run.made.origin.doubt (registry_sights run) d) e is.at_stop.doubt))
      (λ (z : (change : UnansweredChange D) × (run.under_way ≡ Some change) × (change.event ≡ event)).
      let way = of_change run.under_way z.0 run.image z.1 is.leaves in
      let from = from_call run.registry.slots way.call (events_in run.registry) z.0.event way.due in
      unanswered z.0.pass way.of_pass way.call way.in_call (subst (HandsInEvent way.call) z.2 from)) may
