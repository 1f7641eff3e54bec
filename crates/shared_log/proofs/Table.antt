-- What an append makes of a log that runs, by its answer.
use Rattle.std.specs.Prelude.{◌≡◌, ◌⊎◌, ℕ, List, ◌++◌, Some, None}
use Rattle.log_base.specs.declared.limits.LogLimits.{LogLimits}
use Rattle.chain_core.specs.declared.chain.Patch.{Patch}
use Rattle.chain_core.specs.declared.answer.Decision.TheVariants.{Accept, Known, Conflict, Full}
use Rattle.chain_core.specs.declared.answer.LogAnswer.{LogAnswer}
use Rattle.chain_core.specs.declared.answer.LogAnswer.TheVariants.{Accepted, AcceptedRun, Known as IsKnown, Conflict as IsConflict, Full as IsFull, DiskFault, OutOfMemory}
use Rattle.chain_core.specs.Decision.{run_decision}
use Rattle.chain_core.specs.Patches.{patches_of}
use Rattle.chain_core.specs.Runs.{entries_of}
use Rattle.patch_log.specs.State.{LogView}
use Rattle.shared_log.specs.History.{IsKeptBy}

module _ {D : Type 0} where
  -- the run could have been accepted
  abbrev pub IsAcceptableTo : LogLimits → LogView D → List Patch → Type 0
  IsAcceptableTo limits log run = (version : ℕ) × (run_decision (patches_of log.entries) run limits ≡ Accept version)

  abbrev pub Stays : LogLimits → ℕ → List Patch → LogView D → LogView D → LogAnswer → Type 0
  Stays limits by run before after (Accepted version) =
      (run_decision (patches_of before.entries) run limits ≡ Accept version) × (after.entries ≡ before.entries ++ entries_of run by) × (after.doubt ≡ None)
  Stays limits by run before after (AcceptedRun first version) = ⊥
  Stays limits by run before after (IsKnown version same) = (run_decision (patches_of before.entries) run limits ≡ Known version same) × IsKeptBy before after
  Stays limits by run before after (IsConflict version head named) = (run_decision (patches_of before.entries) run limits ≡ Conflict version head named) × IsKeptBy before after
  Stays limits by run before after (IsFull what have limit) = (run_decision (patches_of before.entries) run limits ≡ Full what have limit) × IsKeptBy before after
  Stays limits by run before after DiskFault =
      IsAcceptableTo limits before run × (after.entries ≡ before.entries) × ((after.doubt ≡ before.doubt) ⊎ (after.doubt ≡ None) ⊎ (after.doubt ≡ Some run))
  Stays limits by run before after OutOfMemory = IsAcceptableTo limits before run × IsKeptBy before after
