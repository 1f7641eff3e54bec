-- What an append came to, by its answer.
use Rattle.std.proofs.Common.{◌≡◌, ◌≢◌, ◌≤◌, ◌⊎◌, ℕ, List, [], ◌++◌, length, sym, refl, ap, ◌∙◌, subst, ⊎_elim, inl, inr, Option, Some, None, true, false, arith}
use Rattle.log_base.specs.declared.limits.LogLimits.{LogLimits}
use Rattle.chain_core.specs.declared.chain.Patch.{Patch}
use Rattle.log_base.specs.declared.phase.Phase.TheVariants.{Settling, Body, Gate}
use Rattle.chain_core.specs.declared.fate.Fate.{Fate}
use Rattle.chain_core.specs.declared.fate.Fate.TheVariants.{Done, Fails, Stops}
use Rattle.chain_core.specs.declared.answer.Decision.{Decision}
use Rattle.chain_core.specs.declared.answer.Decision.TheVariants.{Accept, Known, Conflict, Full}
use Rattle.chain_core.specs.declared.answer.LogAnswer.{LogAnswer}
use Rattle.chain_core.specs.declared.answer.LogAnswer.TheVariants.{Accepted, AcceptedRun, Known as IsKnown, Conflict as IsConflict, Full as IsFull, DiskFault, OutOfMemory}
use Rattle.chain_core.specs.Decision.{run_decision}
use Rattle.chain_core.proofs.Decided.{accepted}
use Rattle.chain_core.specs.Runs.{entries_of, patches_in, runs_of}
use Rattle.chain_core.proofs.Runs.{patches_in-runs}
use Rattle.chain_core.specs.Log.{LogPoint, up, down}
use Rattle.chain_core.specs.Patches.{patches_of}
use Rattle.chain_core.specs.Stay.{Outcome, decided_by, RunStay}
use Rattle.std.proofs.lemmas.List.{append-nil}
use Rattle.disk_model.specs.declared.disk.Disk.{Ghosts}
use Rattle.patch_log.specs.State.{LogView}
use Rattle.patch_log.specs.Run.{AppendedRun, AppendsRun, WantsForAppend}
use Rattle.turn_cell.specs.Sights.{IsGrownBy}
use Rattle.shared_log.specs.History.{history_of, IsKeptBy}
use Rattle.shared_log.specs.Legal.{asks_disk}
use Rattle.shared_log.proofs.Table.{Stays}
use Rattle.shared_log.proofs.Histories.{history_push, run_by}

true_not_false : true ≡ false → ⊥
true_not_false e = cc

abbrev CanAccept : Decision → Type 0
CanAccept made = (place : ℕ) × (made ≡ Accept place)

-- what an outcome shows of the decision and of the doubt that is left
abbrev ComesTo : Decision → Option (List Patch) → List Patch → LogPoint (List Patch) → Option LogAnswer → Type 0
ComesTo made doubt run (up after left) (Some (Accepted place)) = (made ≡ Accept place) × (left ≡ None)
ComesTo made doubt run (up after left) (Some (AcceptedRun first place)) = ⊥
ComesTo made doubt run (up after left) (Some (IsKnown place same)) = (made ≡ Known place same) × (left ≡ doubt)
ComesTo made doubt run (up after left) (Some (IsConflict place head named)) = (made ≡ Conflict place head named) × (left ≡ doubt)
ComesTo made doubt run (up after left) (Some (IsFull what have limit)) = (made ≡ Full what have limit) × (left ≡ doubt)
ComesTo made doubt run (up after left) (Some DiskFault) = CanAccept made × ((left ≡ doubt) ⊎ (left ≡ None) ⊎ (left ≡ Some run))
ComesTo made doubt run (up after left) (Some OutOfMemory) = ⊥
ComesTo made doubt run (up after left) None = Unit {0}
ComesTo made doubt run (down after) answer = Unit {0}

abbrev Comes : Decision → Option (List Patch) → List Patch → Outcome (List Patch) → Type 0
Comes made doubt run outcome = ComesTo made doubt run outcome.0 outcome.1

comes : (made : Decision) (fate : Fate) (runs : List (List Patch)) (doubt : Option (List Patch)) (run : List Patch) → Comes made doubt run (decided_by made fate runs doubt run)
comes (Accept place) Done runs doubt run = (refl, refl)
comes (Accept place) (Fails Settling) runs None run = (refl, refl)
comes (Accept place) (Fails Settling) runs (Some doubtful) run = ((place, refl), inl refl)
comes (Accept place) (Fails Body) runs doubt run = ((place, refl), inr (inl refl))
comes (Accept place) (Fails Gate) runs doubt run = ((place, refl), inr (inr refl))
comes (Accept place) (Stops Settling opened) runs None run = (refl, refl)
comes (Accept place) (Stops Settling opened) runs (Some doubtful) run = tt
comes (Accept place) (Stops Body opened) runs doubt run = tt
comes (Accept place) (Stops Gate opened) runs doubt run = tt
comes (Known place same) fate runs doubt run = (refl, refl)
comes (Conflict place head named) fate runs doubt run = (refl, refl)
comes (Full what have limit) fate runs doubt run = (refl, refl)

module _ {D : Type 0} (limits : LogLimits) (by : ℕ) (run : List Patch) (before after : LogView D) where
  abbrev runs : List (List Patch)
  runs = runs_of before.entries

  abbrev GrowsBy : LogAnswer → Type 0
  GrowsBy answer = (place : ℕ) → answer ≡ Accepted place → after.entries ≡ before.entries ++ entries_of run by

  abbrev KeepsAt : LogAnswer → Type 0
  KeepsAt answer = ((place : ℕ) → answer ≢ Accepted place) → after.entries ≡ before.entries

  -- the runs' patches are those of the entries
  here : (made : Decision) → run_decision (patches_in runs) run limits ≡ made → run_decision (patches_of before.entries) run limits ≡ made
  here made is = ap (λ (patches : List Patch). run_decision patches run limits) (sym (patches_in-runs before.entries)) ∙ is

  by_answer : (answer : LogAnswer) → ComesTo (run_decision (patches_in runs) run limits) before.doubt run (up (runs_of after.entries) after.doubt) (Some answer) → GrowsBy answer → KeepsAt answer → Stays limits by run before after answer
  by_answer (Accepted place) came grows keeps = (here (Accept place) came.0, grows place refl, came.1)
  by_answer (AcceptedRun first place) came grows keeps = absurd came
  by_answer (IsKnown place same) came grows keeps = (here (Known place same) came.0, (keeps (λ v e. cc), came.1))
  by_answer (IsConflict place head named) came grows keeps = (here (Conflict place head named) came.0, (keeps (λ v e. cc), came.1))
  by_answer (IsFull what have limit) came grows keeps = (here (Full what have limit) came.0, (keeps (λ v e. cc), came.1))
  by_answer DiskFault came grows keeps = ((came.0.0, here (Accept came.0.0) came.0.1), keeps (λ v e. cc), came.1)
  by_answer OutOfMemory came grows keeps = absurd came

  by_want : (answer : LogAnswer) → WantsForAppend limits runs before.doubt run (up (runs_of after.entries) after.doubt) answer → KeepsAt answer → Stays limits by run before after answer
  by_want answer want keeps =
      let same : after.entries ≡ before.entries = keeps (λ v e. let not : Accepted v ≡ OutOfMemory = sym e ∙ want.told in cc) in
      let left : after.doubt ≡ before.doubt = ap doubt_in want.same in
      subst (Stays limits by run before after) (sym want.told) ((want.could.0, here (Accept want.could.0) want.could.1), (same, left))
    where
      doubt_in : LogPoint (List Patch) → Option (List Patch)
      doubt_in (up entries doubt) = doubt
      doubt_in (down entries) = None

  pub stays : (answer : LogAnswer) → AppendsRun limits runs before.doubt run (up (runs_of after.entries) after.doubt) answer → GrowsBy answer → KeepsAt answer → Stays limits by run before after answer
  stays answer appends grows keeps =
      ⊎_elim (λ (s : (fate : Fate) × RunStay limits (up runs before.doubt) run fate (up (runs_of after.entries) after.doubt) answer).
      by_answer answer (subst (Comes (run_decision (patches_in runs) run limits) before.doubt run) s.1 (comes (run_decision (patches_in runs) run limits) s.0 runs before.doubt run)) grows keeps)
      (λ (w : WantsForAppend limits runs before.doubt run (up (runs_of after.entries) after.doubt) answer). by_want answer w keeps) appends

  same_history : after.entries ≡ before.entries → IsGrownBy by (history_of before.entries) (history_of after.entries)
  same_history same = ([], ap history_of same ∙ sym (append-nil (history_of before.entries)), tt)

  -- an append adds entries of its own number
  pub grows : (answer : LogAnswer) → Stays limits by run before after answer → IsGrownBy by (history_of before.entries) (history_of after.entries)
  grows (Accepted place) s = (history_of (entries_of run by), ap history_of s.1 ∙ history_push before.entries run by, run_by run by)
  grows (AcceptedRun first place) s = absurd s
  grows (IsKnown place same) s = same_history s.1.0
  grows (IsConflict place head named) s = same_history s.1.0
  grows (IsFull what have limit) s = same_history s.1.0
  grows DiskFault s = same_history s.1
  grows OutOfMemory s = same_history s.1.0

module _ {D : Type 0} (disks : Ghosts D) where
  pub stays_of : (before after : LogView D) (run : List Patch) (by : ℕ) (answer : LogAnswer) → AppendedRun disks before after run by answer → Stays before.limits by run before after answer
  stays_of before after run by answer a = stays before.limits by run before after answer a.appends a.accepted a.refused

  pub grows_of : (before after : LogView D) (run : List Patch) (by : ℕ) (answer : LogAnswer) → AppendedRun disks before after run by answer → IsGrownBy by (history_of before.entries) (history_of after.entries)
  grows_of before after run by answer a = grows before.limits by run before after answer (stays_of before after run by answer a)

  kept_by : (limits : LogLimits) (by : ℕ) (run : List Patch) (before after : LogView D) (answer : LogAnswer) → asks_disk answer ≡ false → Stays limits by run before after answer → IsKeptBy before after
  kept_by limits by run before after (Accepted place) unasked s = absurd (true_not_false unasked)
  kept_by limits by run before after (AcceptedRun first place) unasked s = absurd s
  kept_by limits by run before after (IsKnown place same) unasked s = s.1
  kept_by limits by run before after (IsConflict place head named) unasked s = s.1
  kept_by limits by run before after (IsFull what have limit) unasked s = s.1
  kept_by limits by run before after DiskFault unasked s = absurd (true_not_false unasked)
  kept_by limits by run before after OutOfMemory unasked s = s.1

  -- where the disk wasn't asked, all is as it was
  pub kept_of : (before after : LogView D) (run : List Patch) (by : ℕ) (answer : LogAnswer) → AppendedRun disks before after run by answer → asks_disk answer ≡ false → IsKeptBy before after × (after.disk ≡ before.disk)
  kept_of before after run by answer a unasked = (
    kept_by before.limits by run before after answer unasked (stays_of before after run by answer a),
    a.untouched (λ is. true_not_false (sym (ap asks_disk is) ∙ unasked)) (λ version is. true_not_false (sym (ap asks_disk is) ∙ unasked)),
  )

  -- the version that is told counts all patches of the run
  pub counted : (before after : LogView D) (run : List Patch) (by : ℕ) (answer : LogAnswer) → AppendedRun disks before after run by answer → (version : ℕ) → answer ≡ Accepted version → length run ≤ version
  counted before after run by answer a version is =
      let here = subst (Stays before.limits by run before after) is (stays_of before after run by answer a) in
      omega (arith, (accepted (patches_of before.entries) run before.limits version here.0).1)
