-- The passes of a hall, at the log of one slot.
use Rattle.std.proofs.Common.{◌≡◌, ◌≢◌, ℕ, zero, suc, ◌+◌, eq-eqb, ne_eqb, List, [], ◌∷◌, map, refl, sym, ap, ◌∙◌, subst, arith, Option, Some, None, slice_get}
use Rattle.std.specs.List.{AllZip, cons_option}
use mathlib.Core.Logic.{dite}
use native.Mathlib.Decide.{ℕ_discrete}
use Rattle.disk_model.specs.declared.disk.Disk.{Ghosts}
use Rattle.chain_core.specs.Replies.{LogCall}
use Rattle.patch_log.specs.State.{LogView}
use Rattle.turn_cell.specs.Turns.{AllOf}
use Rattle.turn_cell.specs.Sights.{Made}
use Rattle.turn_cell.specs.Sharing.{IsNewPassOf}
use Rattle.shared_log.specs.History.{LogSight, shared_log}
use Rattle.hall_logs.specs.Ends.{parts_at}
use Rattle.hall_logs.specs.Slots.{OnSlot}
use Rattle.hall_logs.proofs.Visiting.{get_set, get_other, same_some}
use Rattle.delta_session.specs.Halls.{AreNewPasses}
use Rattle.delta_session.specs.Sessions.{HasAsked}
use Rattle.delta_session.specs.Steps.{HallView, HallSight, Lists, IsStep, AreSteps}
use Rattle.deployment.specs.Calls.{AreSeenCalls, SeenCall, IsAmid}
use Rattle.deployment.specs.History.{PassRun, HasCalled}
use Rattle.hall_deployment.specs.Seen.{SeenStep, steps_in, calls_at, AreSeenSteps}
use Rattle.hall_deployment.specs.Laws.{ShowsCalls}
use Rattle.hall_deployment.specs.Halls.{StepUnderWay, on_registry, on_log, HallPassRun, IsAmidStep, HasStepped, IsPassAt, in_call_at}
use Rattle.hall_deployment.proofs.Seeing.{shows_calls}

module _ {A B : Type 0} (R : A → B → Type 0) where
  -- what stands at a place of the one list, of a place of the other
  pub in_first : (xs : List A) (ys : List B) (k : ℕ) (y : B) → AllZip R xs ys → slice_get ys k ≡ Some y → (x : A) × (slice_get xs k ≡ Some x) × R x y
  in_first xs [] k y all is = let c = is in cc
  in_first [] (b ∷ ys) k y all is = absurd all
  in_first (a ∷ xs) (b ∷ ys) zero y all is = let same : b ≡ y = cc in (a, refl, subst (R a) same all.0)
  in_first (a ∷ xs) (b ∷ ys) (suc k) y all is = in_first xs ys k y all.1 is

  pub in_second : (xs : List A) (ys : List B) (k : ℕ) (x : A) → AllZip R xs ys → slice_get xs k ≡ Some x → (y : B) × (slice_get ys k ≡ Some y) × R x y
  in_second [] ys k x all is = let c = is in cc
  in_second (a ∷ xs) [] k x all is = absurd all
  in_second (a ∷ xs) (b ∷ ys) zero x all is = let same : a ≡ x = cc in (b, refl, subst (λ z. R z b) same all.0)
  in_second (a ∷ xs) (b ∷ ys) (suc k) x all is = in_second xs ys k x all.1 is

-- ---- a pass behind its last step, and amid one more

module _ {D : Type 0} (hall : HallView D) where
  none_under_way : (p q : Lists) (in_step : Option StepUnderWay) → in_step ≡ None → IsAmidStep hall p in_step q → q ≡ p
  none_under_way p q in_step none amid = subst (λ (step : Option StepUnderWay). IsAmidStep hall p step q) none amid

  module _ (place : ℕ) (p q : Lists) (left now : LogSight) (is : slice_get p.logs place ≡ Some left) (is_now : slice_get q.logs place ≡ Some now) where
    still : slice_get q.logs place ≡ slice_get p.logs place → now ≡ left
    still same = same_some now left (sym is_now ∙ same ∙ is)

    -- what that is on the log at a place
    pub amid_at : (in_step : Option StepUnderWay) → IsAmidStep hall p in_step q → IsAmid left (in_call_at place in_step) now
    amid_at None same = still (ap (λ (l : Lists). slice_get l.logs place) same)
    amid_at (Some (on_registry call)) step = still (ap (λ (l : List LogSight). slice_get l place) step.1)
    amid_at (Some (on_log slot call)) step = dite (ℕ_discrete slot (place + 1)) here there
      where
        on : OnSlot slot (λ log part now. IsAmid part (Some call) now) hall.logs.logs p.logs q.logs
        on = step.0

        here : slot ≡ place + 1 → IsAmid left (in_call_at place (Some (on_log slot call))) now
        here slot_is =
            let same : on.place ≡ place = omega (arith, on.slot_is, slot_is) in
            let old_is : on.old ≡ left = same_some on.old left (sym on.old_is ∙ ap (slice_get p.logs) same ∙ is) in
            let got : slice_get q.logs on.place ≡ Some on.new = ap (λ (l : List LogSight). slice_get l on.place) on.others ∙ get_set p.logs on.place on.old on.new on.old_is in
            let new_is : on.new ≡ now = same_some on.new now (sym got ∙ ap (slice_get q.logs) same ∙ is_now) in
            rw (eq-eqb slot (place + 1) slot_is) (subst (λ (z : LogSight × LogSight). IsAmid z.0 (Some call) z.1) (λ i. (old_is i, new_is i)) on.so)

        there : slot ≢ place + 1 → IsAmid left (in_call_at place (Some (on_log slot call))) now
        there apart = rw (ne_eqb slot (place + 1) apart)
            (still (ap (λ (l : List LogSight). slice_get l place) on.others ∙ get_other p.logs on.place place on.new (λ e. apart (on.slot_is ∙ ap (λ (k : ℕ). k + 1) e))))

-- ---- all passes

abbrev pub InNone : HallPassRun → Type 0
InNone pass = pass.in_step ≡ None

module _ {D : Type 0} (disks : Ghosts D) (hall : HallView D) where
  -- the steps alone
  pub steps_alone : (p q : Lists) (seen : List SeenStep) → AreSeenSteps disks hall p seen q → AreSteps disks hall p (steps_in seen) q
  steps_alone p q [] same = same
  steps_alone p q (one ∷ more) are = (one.after, subst (λ (s : Lists). IsStep disks hall s one.step one.after) are.0 are.1, steps_alone one.after q more are.2)

  pub have_asked : (passes : List HallPassRun) → AllOf (HasStepped disks hall) passes → AllOf InNone passes → AllZip (HasAsked disks hall) (map (λ (pass : HallPassRun). pass.given) passes) (map (λ (pass : HallPassRun). pass.at_stop) passes)
  have_asked [] all none = tt
  have_asked (pass ∷ passes) all none =
      let is = none_under_way hall all.0.behind pass.at_stop.lists pass.in_step none.0 all.0.amid in
      ((steps_in pass.steps, subst (λ (q : Lists). AreSteps disks hall pass.given.lists (steps_in pass.steps) q) (sym is) (steps_alone pass.given.lists all.0.behind pass.steps all.0.steps)), have_asked passes all.1 none.1)

  -- the parts of one log, as the passes gave them back
  abbrev pub parts_back : ℕ → List HallPassRun → List LogSight
  parts_back place passes = parts_at place (map (λ (pass : HallSight). pass.lists.logs) (map (λ (pass : HallPassRun). pass.at_stop) passes))

  -- what passes that were in no step did on one log
  pub record AreParts (place : ℕ) (passes : List HallPassRun) : Type 0 where
    pub parts : List PassRun
    pub are : AllZip (IsPassAt place) passes parts
    pub sights : map (λ (part : PassRun). part.at_stop) parts ≡ parts_back place passes

  module _ (place : ℕ) (log : Made (LogView D)) (at : slice_get hall.logs.logs place ≡ Some log) where
    -- a new pass of the hall has a new part of the log, which made the calls of its steps there
    record HasPartAt (number : ℕ) (pass : HallPassRun) (behind : Lists) : Type 0 where
      given : LogSight
      is_given : IsNewPassOf (shared_log disks) log number given
      shown : ShowsCalls disks place log.origin given pass.steps behind

    has_part : (number : ℕ) (pass : HallPassRun) (passes : List HallPassRun) (stepped : HasStepped disks hall pass) → AreNewPasses disks hall number (map (λ (pass : HallPassRun). pass.given) (pass ∷ passes)) → HasPartAt number pass stepped.behind
    has_part number pass passes stepped new =
        let given = in_second (λ (log : Made (LogView D)) (part : LogSight). IsNewPassOf (shared_log disks) log number part) hall.logs.logs pass.given.lists.logs place log new.1 at in
        record { given = given.0; is_given = given.2; shown = shows_calls disks hall place log at pass.given.lists stepped.behind pass.steps given.0 given.1 stepped.steps }

    pub have_called : (number : ℕ) (passes : List HallPassRun) (parts : List PassRun) → AllZip (IsPassAt place) passes parts → AreNewPasses disks hall number (map (λ (pass : HallPassRun). pass.given) passes) → AllOf (HasStepped disks hall) passes
        → AllOf (HasCalled disks log) parts
    have_called number [] [] are new all = tt
    have_called number [] (part ∷ parts) are new all = absurd are
    have_called number (pass ∷ passes) [] are new all = absurd are
    have_called number (pass ∷ passes) (part ∷ parts) are new all =
        let one = has_part number pass passes all.0 new in
        let called : HasCalled disks log part = record {
          number = number;
          given = one.given;
          is_given = one.is_given;
          behind = one.shown.left;
          calls = subst (λ (calls : List SeenCall). AreSeenCalls disks log.origin one.given calls one.shown.left) (sym are.0.calls) one.shown.calls;
          amid = subst (λ (call : Option LogCall). IsAmid one.shown.left call part.at_stop) (sym are.0.in_call)
              (amid_at hall place all.0.behind pass.at_stop.lists one.shown.left part.at_stop one.shown.left_is are.0.at_stop pass.in_step all.0.amid);
        } in
        (called, have_called (number + 1) passes parts are.1 new.2 all.1)

    pub parts_of : (number : ℕ) (passes : List HallPassRun) → AreNewPasses disks hall number (map (λ (pass : HallPassRun). pass.given) passes) → AllOf (HasStepped disks hall) passes → AllOf InNone passes → AreParts place passes
    parts_of number [] new all none = record { parts = []; are = tt; sights = refl }
    parts_of number (pass ∷ passes) new all none =
        let one = has_part number pass passes all.0 new in
        let is = none_under_way hall all.0.behind pass.at_stop.lists pass.in_step none.0 all.0.amid in
        let there : slice_get pass.at_stop.lists.logs place ≡ Some one.shown.left = ap (λ (l : Lists). slice_get l.logs place) is ∙ one.shown.left_is in
        let part : PassRun = record { calls = calls_at place pass.steps; in_call = in_call_at place pass.in_step; at_stop = one.shown.left } in
        let rest = parts_of (number + 1) passes new.2 all.1 none.1 in
        record {
          parts = part ∷ rest.parts;
          are = (record { calls = refl; in_call = refl; at_stop = there }, rest.are);
          sights = ap (λ (l : List LogSight). one.shown.left ∷ l) rest.sights ∙ ap (λ (o : Option LogSight). cons_option o (parts_back place passes)) (sym there);
        }
