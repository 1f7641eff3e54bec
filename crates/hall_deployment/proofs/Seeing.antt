-- Steps on many lists are calls on each log.
use Rattle.std.proofs.Common.{◌≡◌, ◌≢◌, ℕ, ◌+◌, eq-eqb, ne_eqb, List, [], ◌∷◌, ◌++◌, map, refl, sym, ap, ◌∙◌, subst, Some, slice_get}
use Rattle.std.specs.Prelude.{if◌then◌else◌}
use Rattle.std.proofs.lemmas.List.{map-append}
use mathlib.Core.Logic.{dite}
use native.Mathlib.Decide.{ℕ_discrete}
use Rattle.disk_model.specs.declared.disk.Disk.{Ghosts}
use Rattle.patch_log.specs.State.{LogView}
use Rattle.turn_cell.specs.Sights.{Made}
use Rattle.shared_log.specs.History.{LogSight}
use Rattle.shared_log.specs.Calls.{CallOnLog, AreCalledOnLog}
use Rattle.hall_logs.specs.Visits.{Visit, IsVisit, asked_at}
use Rattle.hall_logs.proofs.Visiting.{here, asked_here}
use Rattle.delta_session.specs.Sessions.{ServedSession}
use Rattle.delta_session.specs.Steps.{HallView, HallSight, Lists, Step, of_registry, of_log, IsStep, AreSteps, visits_of}
use Rattle.http_session.specs.Output.{Exchange}
use Rattle.deployment.specs.Calls.{SeenCall, AreSeenCalls}
use Rattle.hall_deployment.specs.Seen.{SeenStep, steps_in, seen_call, call_at, calls_at, exchange_seen, exchange_made, AreSeenSteps}
use Rattle.hall_deployment.specs.Laws.{ShowsSteps, ShowsCalls}

-- ---- the calls of steps

module _ {D : Type 0} (disks : Ghosts D) (origin : LogView D) where
  calls_follow : (p m q : LogSight) (first others : List SeenCall) → AreSeenCalls disks origin p first m → AreSeenCalls disks origin m others q → AreSeenCalls disks origin p (first ++ others) q
  calls_follow p m q [] others a b = subst (λ (s : LogSight). AreSeenCalls disks origin s others q) a b
  calls_follow p m q (seen ∷ first) others a b = (a.0, a.1, calls_follow seen.after m q first others a.2 b)

-- what one step was for a log
record ShowsOne {D : Type 0} (disks : Ghosts D) (place : ℕ) (origin : LogView D) (part : LogSight) (before : Lists) (step : Step) (after : Lists) : Type 0 where
  left : LogSight
  left_is : slice_get after.logs place ≡ Some left
  calls : AreSeenCalls disks origin part (call_at place before step after) left
  asked : map exchange_seen (call_at place before step after) ≡ map exchange_made (asked_at (place + 1) (visits_of (step ∷ [])))

module _ {D : Type 0} (disks : Ghosts D) (hall : HallView D) (place : ℕ) (log : Made (LogView D)) (at : slice_get hall.logs.logs place ≡ Some log) where
  module _ (before after : Lists) (visit : Visit) (part : LogSight) (is : slice_get before.logs place ≡ Some part) (step : IsVisit disks hall.logs.logs before.logs visit after.logs) where
    one_here : visit.slot ≡ place + 1 → ShowsOne disks place log.origin part before (of_log visit) after
    one_here slot =
        let h = here disks hall.logs.logs place log at part before.logs after.logs visit is slot step in
        let one : SeenCall = record { before = part; call = visit.asked.call; reply = visit.asked.reply; after = h.0 } in
        let shown_is : seen_call visit.asked (slice_get before.logs place) (slice_get after.logs place) ≡ one ∷ [] = λ i. seen_call visit.asked (is i) (h.1 i) in
        let there : call_at place before (of_log visit) after ≡ one ∷ [] =
        ap (λ b. if b then seen_call visit.asked (slice_get before.logs place) (slice_get after.logs place) else []) (eq-eqb visit.slot (place + 1) slot) ∙ shown_is in
        let made : asked_at (place + 1) (visit ∷ []) ≡ visit.asked ∷ [] = ap (λ b. if b then visit.asked ∷ [] else []) (eq-eqb visit.slot (place + 1) slot) in
        record {
          left = h.0;
          left_is = h.1;
          calls = subst (λ (calls : List SeenCall). AreSeenCalls disks log.origin part calls h.0) (sym there) (refl, (h.2.replied, h.3), refl);
          asked = ap (map exchange_seen) there ∙ ap (map exchange_made) (sym made);
        }

    one_there : visit.slot ≢ place + 1 → ShowsOne disks place log.origin part before (of_log visit) after
    one_there apart =
        let r = asked_here disks hall.logs.logs place log at part before.logs after.logs (visit ∷ []) is (after.logs, step, refl) in
        let there : call_at place before (of_log visit) after ≡ [] =
        ap (λ b. if b then seen_call visit.asked (slice_get before.logs place) (slice_get after.logs place) else []) (ne_eqb visit.slot (place + 1) apart) in
        let made : asked_at (place + 1) (visit ∷ []) ≡ [] = ap (λ b. if b then visit.asked ∷ [] else []) (ne_eqb visit.slot (place + 1) apart) in
        let still : r.0 ≡ part = subst (λ (calls : List CallOnLog). AreCalledOnLog disks log.origin part calls r.0) made r.2 in
        record {
          left = r.0;
          left_is = r.1;
          calls = subst (λ (calls : List SeenCall). AreSeenCalls disks log.origin part calls r.0) (sym there) still;
          asked = ap (map exchange_seen) there ∙ ap (map exchange_made) (sym made);
        }

  one_shown : (before : Lists) (step : Step) (after : Lists) (part : LogSight) → slice_get before.logs place ≡ Some part → IsStep disks hall before step after → ShowsOne disks place log.origin part before step after
  one_shown before (of_registry asked) after part is step = record { left = part; left_is = ap (λ l. slice_get l place) step.1 ∙ is; calls = refl; asked = refl }
  one_shown before (of_log visit) after part is step = dite (ℕ_discrete visit.slot (place + 1)) (λ slot. one_here before after visit part is step.0 slot) (λ apart. one_there before after visit part is step.0 apart)

  asked_append : (step : Step) (more : List Step) → asked_at (place + 1) (visits_of (step ∷ more)) ≡ asked_at (place + 1) (visits_of (step ∷ [])) ++ asked_at (place + 1) (visits_of more)
  asked_append (of_registry asked) more = refl
  asked_append (of_log visit) more = dite (ℕ_discrete visit.slot (place + 1))
      (λ slot. rw (eq-eqb visit.slot (place + 1) slot) refl)
      (λ apart. rw (ne_eqb visit.slot (place + 1) apart) refl)

  pub shows_calls : (before after : Lists) (seen : List SeenStep) (part : LogSight) → slice_get before.logs place ≡ Some part → AreSeenSteps disks hall before seen after → ShowsCalls disks place log.origin part seen after
  shows_calls before after [] part is same = record { left = part; left_is = ap (λ (l : Lists). slice_get l.logs place) same ∙ is; calls = refl; asked = refl }
  shows_calls before after (one ∷ more) part is are =
      let first = one_shown one.before one.step one.after part (ap (λ (l : Lists). slice_get l.logs place) are.0 ∙ is) are.1 in
      let rest = shows_calls one.after after more first.left first.left_is are.2 in
      let here_calls : List SeenCall = call_at place one.before one.step one.after in
      record {
        left = rest.left;
        left_is = rest.left_is;
        calls = calls_follow disks log.origin part first.left rest.left here_calls (calls_at place more) first.calls rest.calls;
        asked = map-append exchange_seen here_calls (calls_at place more)
            ∙ (λ i. first.asked i ++ rest.asked i)
            ∙ sym (map-append exchange_made (asked_at (place + 1) (visits_of (one.step ∷ []))) (asked_at (place + 1) (visits_of (steps_in more))))
            ∙ ap (map exchange_made) (sym (asked_append one.step (steps_in more)));
      }

-- ---- the steps of a session

module _ {D : Type 0} (disks : Ghosts D) (hall : HallView D) where
  -- steps, with what the pass knew
  abbrev pub Seen : Lists → List Step → Lists → Type 0
  Seen p steps q = (seen : List SeenStep) × (steps_in seen ≡ steps) × AreSeenSteps disks hall p seen q

  pub steps_seen : (p q : Lists) (steps : List Step) → AreSteps disks hall p steps q → Seen p steps q
  steps_seen p q [] same = ([], refl, same)
  steps_seen p q (step ∷ more) are =
      let rest = steps_seen are.0 q more are.2 in
      (record { before = p; step = step; after = are.0 } ∷ rest.0, ap (λ (steps : List Step). step ∷ steps) rest.1, (refl, are.1, rest.2))

  pub shows_steps : (before after : HallSight) (exchanges : List Exchange) → ServedSession disks hall before exchanges after → ShowsSteps disks hall before exchanges after
  shows_steps before after exchanges served =
      let seen = steps_seen before.lists after.lists _ served.taken in
      record { steps = served.steps; said = served.said; seen = seen.0; are_those = seen.1; taken = seen.2 }
