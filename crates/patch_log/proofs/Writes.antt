-- What one append shows of the disk, whether it was asked or not.
use Rattle.std.proofs.Common.{◌≡◌, ◌≢◌, inl, ⊎_elim, ℕ, zero, suc, ◌-◌, not, List, [], ◌∷◌, ◌++◌, Option, Some, None, refl, sym, ◌∙◌, ap, subst}
use Rattle.std.specs.Prelude.{IsTrue}
use Rattle.disk_model.specs.declared.disk.Disk.{Ghosts}
use Rattle.disk_model.specs.Past.{ok_syncs, EveryImage, LeavesOnly}
use Rattle.disk_model.proofs.Moments.{starts}
use Rattle.log_base.specs.Phases.{phase_by_syncs, phase_by_plan}
use Rattle.log_base.specs.declared.phase.Phase.{Phase}
use Rattle.log_base.specs.declared.phase.Phase.TheVariants.{Settling, Body, Gate}
use Rattle.log_journal.specs.File.{Holds}
use Rattle.log_journal.specs.Writing.{HoldsDuring, LeavesEither, payloads_left, doubt_left}
use Rattle.chain_core.specs.declared.chain.Patch.{Patch}
use Rattle.chain_core.specs.declared.fate.Fate.{Fate}
use Rattle.chain_core.specs.declared.answer.Decision.{Decision}
use Rattle.chain_core.specs.declared.answer.LogAnswer.{LogAnswer}
use Rattle.chain_core.specs.declared.answer.LogAnswer.TheVariants.{Accepted, OutOfMemory}
use Rattle.chain_core.specs.Runs.{run_text}
use Rattle.chain_core.specs.Log.{LogPoint, up}
use Rattle.chain_core.specs.Stay.{Outcome, decided_by, accepted_by, RunStay, fate_of, fate_by_syncs, fate_by_plan}
use Rattle.patch_log.specs.Log.{payloads_of, run_payload, MayHoldChain}
use Rattle.patch_log.specs.State.{LogView, runs_in, point_of}
use Rattle.patch_log.specs.Run.{WritesRun, AsksNoDisk, AppendedRun}
use Rattle.patch_log.proofs.Sound.{texts_of-push}

-- the text in doubt tells as much as the run
same_fate : (doubt : Option (List Patch)) (syncs : ℕ) → fate_of (phase_by_syncs (run_payload doubt) syncs) ≡ fate_by_syncs doubt syncs
same_fate None zero = refl
same_fate None (suc zero) = refl
same_fate None (suc (suc n)) = refl
same_fate (Some run) zero = refl
same_fate (Some run) (suc zero) = refl
same_fate (Some run) (suc (suc zero)) = refl
same_fate (Some run) (suc (suc (suc n))) = refl

same_plan : (doubt : Option (List Patch)) (plan : Option ℕ) → fate_of (phase_by_plan (run_payload doubt) plan) ≡ fate_by_plan doubt plan
same_plan doubt None = refl
same_plan doubt (Some syncs) = same_fate doubt syncs

-- without a doubt no settling fails
never_settles : (syncs : ℕ) → phase_by_syncs {T = List ℕ} None syncs ≡ Some Settling → ⊥
never_settles zero is = cc
never_settles (suc zero) is = cc
never_settles (suc (suc n)) is = cc

-- what stands behind a write, by the phase that failed
abbrev LeftBy : Option Phase → List (List Patch) → Option (List Patch) → List Patch → LogPoint (List Patch) → Option LogAnswer → Type 0
LeftBy end runs doubt run (up after left) (Some answer) =
    (payloads_left end (payloads_of runs) (run_text run) ≡ payloads_of after) × (doubt_left end (run_payload doubt) (run_text run) ≡ run_payload left) × ((version : ℕ) → answer ≡ Accepted version → end ≡ None)
LeftBy end runs doubt run after answer = Unit {0}

left_by : (end : Option Phase) (version : ℕ) (runs : List (List Patch)) (doubt : Option (List Patch)) (run : List Patch) → (run_payload doubt ≡ None → end ≡ Some Settling → ⊥) → LeftBy end runs doubt run (accepted_by version (fate_of end) runs doubt run).0 (accepted_by version (fate_of end) runs doubt run).1
left_by None version runs doubt run settles = (sym (texts_of-push runs run), refl, λ v at. refl)
left_by (Some Settling) version runs None run settles = absurd (settles refl refl)
left_by (Some Settling) version runs (Some doubt) run settles = (refl, refl, λ v at. absurd (cc))
left_by (Some Body) version runs doubt run settles = (refl, refl, λ v at. absurd (cc))
left_by (Some Gate) version runs doubt run settles = (refl, refl, λ v at. absurd (cc))

still_during : (number : ℕ) (runs : List (List Patch)) (doubt : Option (List Patch)) (text : List ℕ) (image : List ℕ) → MayHoldChain number runs doubt image → HoldsDuring number (payloads_of runs) (run_payload doubt) text image
still_during number runs None text image holds = inl holds
still_during number runs (Some doubt) text image holds = inl holds

module _ {D : Type 0} (disks : Ghosts D) (before after : LogView D) (run : List Patch) (by : ℕ) (answer : LogAnswer) (a : AppendedRun disks before after run by answer) where
  abbrev runs : List (List Patch)
  runs = runs_in before

  -- what stands behind the write
  left_of : disks.tells → (w : WritesRun disks before after run answer) → LeftBy w.end runs before.doubt run (point_of after) (Some answer)
  left_of told w =
      let syncs = ok_syncs (disks.past after.disk) - ok_syncs (disks.past before.disk) in
      subst (λ (o : Outcome (List Patch)). LeftBy w.end runs before.doubt run o.0 o.1) (ap (λ (d : Decision). decided_by d (fate_of w.end) runs before.doubt run) (sym w.can) ∙ w.stay)
      (left_by w.end w.version runs before.doubt run (λ none settles. never_settles syncs (ap (λ (d : Option (List ℕ)). phase_by_syncs d syncs) (sym none) ∙ sym (w.written.by_syncs told) ∙ settles)))

  with_fate : (w : WritesRun disks before after run answer) (fate : Fate) → fate_of w.end ≡ fate → RunStay before.limits (point_of before) run fate (point_of after) answer
  with_fate w fate is = subst (λ (f : Fate). RunStay before.limits (point_of before) run f (point_of after) answer) is w.stay

  -- the fate is that of the syncs which were done
  pub by_syncs : disks.tells → answer ≢ OutOfMemory → RunStay before.limits (point_of before) run (fate_by_syncs before.doubt (ok_syncs (disks.past after.disk) - ok_syncs (disks.past before.disk))) (point_of after) answer
  by_syncs told want = ⊎_elim (λ (w : WritesRun disks before after run answer). with_fate w _ (ap fate_of (w.written.by_syncs told) ∙ same_fate before.doubt _))
      (λ (u : AsksNoDisk before after run answer). u.stays want _) a.asks

  -- where the syncs fail as planned, it is that of the plan
  pub planned : disks.plans → IsTrue (not (disks.short after.disk)) → answer ≢ OutOfMemory → RunStay before.limits (point_of before) run (fate_by_plan before.doubt (disks.next_failure before.disk)) (point_of after) answer
  planned plans long want = ⊎_elim (λ (w : WritesRun disks before after run answer). with_fate w _ (ap fate_of (w.written.planned plans long) ∙ same_plan before.doubt (disks.next_failure before.disk)))
      (λ (u : AsksNoDisk before after run answer). u.stays want _) a.asks

  -- a crash at any moment leaves the runs, or these with the one in doubt or with the new one
  pub any_moment : disks.tells → LeavesOnly (HoldsDuring before.number (payloads_of runs) (run_payload before.doubt) (run_text run)) (disks.past before.disk) (disks.past after.disk)
  any_moment told =
      let P = HoldsDuring before.number (payloads_of runs) (run_payload before.doubt) (run_text run) in
      ⊎_elim (λ (w : WritesRun disks before after run answer). w.written.any_moment told)
      (λ (u : AsksNoDisk before after run answer). subst (λ (log : LogView D). LeavesOnly P (disks.past before.disk) (disks.past log.disk)) (sym u.same)
      (starts P (disks.past before.disk) (λ image may. still_during before.number runs before.doubt (run_text run) image ((a.stood told).each image may)))) a.asks

  -- what is accepted is in every image
  pub kept : (version : ℕ) → answer ≡ Accepted version → disks.tells → EveryImage (disks.past after.disk) (λ image. Holds image after.number (payloads_of (runs_in after)))
  kept version at told = ⊎_elim
      (λ (w : WritesRun disks before after run answer).
      let left = left_of told w in
      let done = left.2 version at in
      let same : payloads_of runs ++ run_text run ∷ [] ≡ payloads_of (runs_in after) = ap (λ (end : Option Phase). payloads_left end (payloads_of runs) (run_text run)) (sym done) ∙ left.0 in
      subst (λ (number : ℕ). EveryImage (disks.past after.disk) (λ image. Holds image number (payloads_of (runs_in after)))) (sym a.number)
      (subst (λ (payloads : List (List ℕ)). EveryImage (disks.past after.disk) (λ image. Holds image before.number payloads)) same (w.written.kept done told)))
      (λ (u : AsksNoDisk before after run answer). absurd (u.never version at)) a.asks

  -- as planned, a run in doubt stands where what wasn't synced is 1, and not in what was synced
  pub images : disks.plans → disks.tells → IsTrue (not (disks.short after.disk)) → LeavesEither (disks.past before.disk) before.number (payloads_of runs) (run_payload before.doubt)
      → LeavesEither (disks.past after.disk) after.number (payloads_of (runs_in after)) (run_payload after.doubt)
  images plans told long either = ⊎_elim
      (λ (w : WritesRun disks before after run answer).
      let now = disks.past after.disk in
      let left = left_of told w in
      subst (λ (number : ℕ). LeavesEither now number (payloads_of (runs_in after)) (run_payload after.doubt)) (sym a.number)
      (subst (λ (doubt : Option (List ℕ)). LeavesEither now before.number (payloads_of (runs_in after)) doubt) left.1
      (subst (λ (payloads : List (List ℕ)). LeavesEither now before.number payloads (doubt_left w.end (run_payload before.doubt) (run_text run))) left.0 (w.written.images plans told long either))))
      (λ (u : AsksNoDisk before after run answer). subst (λ (log : LogView D). LeavesEither (disks.past log.disk) log.number (payloads_of (runs_in log)) (run_payload log.doubt)) (sym u.same) either) a.asks
