-- Appends that ask no disk: what was told, and want of memory.
use Rattle.std.proofs.Common.{◌≡◌, ◌≢◌, inl, inr, ⊎_elim, ℕ, List, refl, sym, ◌∙◌, ap}
use Rattle.disk_model.specs.declared.disk.Disk.{Ghosts}
use Rattle.log_journal.proofs.Disks.{not_asked}
use Rattle.chain_core.specs.declared.chain.Patch.{Patch}
use Rattle.chain_core.specs.declared.answer.Decision.{Decision}
use Rattle.chain_core.specs.declared.answer.Decision.TheVariants.{Accept}
use Rattle.chain_core.specs.declared.answer.LogAnswer.{LogAnswer}
use Rattle.chain_core.specs.declared.answer.LogAnswer.TheVariants.{Accepted, DiskFault, OutOfMemory}
use Rattle.chain_core.specs.declared.fate.Fate.{Fate}
use Rattle.chain_core.specs.declared.fate.Fate.TheVariants.{Done}
use Rattle.chain_core.specs.Decision.{run_decision}
use Rattle.chain_core.specs.Runs.{AreWhole, patches_in}
use Rattle.chain_core.specs.Stay.{answer_of, decided_by, RunStay}
use Rattle.patch_log.specs.Log.{StandsForLog}
use Rattle.patch_log.specs.State.{LogView, runs_in, point_of}
use Rattle.patch_log.specs.Run.{AppendsRun, WritesRun, AsksNoDisk, AppendedRun}
use Rattle.patch_log.proofs.States.{outcome_told, told_is}

-- as it was, but for the places that are ready
abbrev pub with_spare : {D : Type 0} → LogView D → ℕ → LogView D
with_spare log spare = record log { spare = spare }

module _ {D : Type 0} (disks : Ghosts D) (log : LogView D) (run : List Patch) (by : ℕ)
    (stands : disks.tells → StandsForLog (disks.past log.disk) log.number log.limits (runs_in log) log.doubt) (whole : AreWhole log.entries) where
  untouched : (answer : LogAnswer) → AppendsRun log.limits (runs_in log) log.doubt run (point_of log) answer → ((version : ℕ) → answer ≡ Accepted version → ⊥) → (answer ≡ DiskFault → ⊥)
      → (answer ≢ OutOfMemory → (fate : Fate) → RunStay log.limits (point_of log) run fate (point_of log) answer) → AppendedRun disks log log run by answer
  untouched answer appends never no_fault stays = record {
    stood = stands;
    appends = appends;
    asks = inr (record { same = refl; never = never; stays = stays });
    found_whole = whole;
    left_whole = whole;
    accepted = λ version at. absurd (never version at);
    refused = λ other. refl;
    went = not_asked disks log.disk (answer ≡ DiskFault) no_fault;
    untouched = λ other none. refl;
    limits = refl;
    number = refl;
  }

  -- what isn't accepted is told
  pub appended_told : (made : Decision) → made ≡ run_decision (patches_in (runs_in log)) run log.limits → ((version : ℕ) → made ≡ Accept version → ⊥) → AppendedRun disks log log run by (answer_of made)
  appended_told made is other =
      let told = told_is made other in
      let stays : (fate : Fate) → RunStay log.limits (point_of log) run fate (point_of log) (answer_of made) =
      λ fate. ap (λ (d : Decision). decided_by d fate (runs_in log) log.doubt run) (sym is) ∙ outcome_told made fate (runs_in log) log.doubt run other in
      untouched (answer_of made) (inl (Done, stays Done)) told.not_accepted told.no_fault (λ want. stays)

  -- no memory was found for a run that could be accepted
  pub appended_want : (version : ℕ) → Accept version ≡ run_decision (patches_in (runs_in log)) run log.limits → AppendedRun disks log log run by OutOfMemory
  appended_want version is = untouched OutOfMemory (inr (record { told = refl; same = refl; could = (version, sym is) })) (λ v at. cc) (λ at. cc) (λ want. absurd (want refl))

-- the places that were ready don't matter
pub with_places : {D : Type 0} (disks : Ghosts D) (before after : LogView D) (spare : ℕ) (run : List Patch) (by : ℕ) (answer : LogAnswer) → AppendedRun disks (with_spare before spare) after run by answer → AppendedRun disks before after run by answer
with_places disks before after spare run by answer was = record {
  stood = was.stood;
  appends = was.appends;
  asks = ⊎_elim
      (λ (w : WritesRun disks (with_spare before spare) after run answer). inl (record { version = w.version; can = w.can; end = w.end; stay = w.stay; written = w.written }))
      (λ (u : AsksNoDisk (with_spare before spare) after run answer). inr (record { same = u.same; never = u.never; stays = u.stays })) was.asks;
  found_whole = was.found_whole;
  left_whole = was.left_whole;
  accepted = was.accepted;
  refused = was.refused;
  went = was.went;
  untouched = was.untouched;
  limits = was.limits;
  number = was.number;
}
