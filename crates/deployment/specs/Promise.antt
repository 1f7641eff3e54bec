-- What a deployment promises, by the chain that is found at its end.
use Rattle.std.specs.Prelude.{◌≡◌, ◌⊎◌, ℕ, List, Some}
use mathlib.Core.List.{IsPrefix}
use Rattle.delta_base.specs.declared.id.Id.{Id}
use Rattle.log_base.specs.declared.limits.LogLimits.{LogLimits}
use Rattle.chain_core.specs.declared.chain.Patch.{Patch}
use Rattle.chain_core.specs.declared.answer.Decision.TheVariants.{Accept}
use Rattle.chain_core.specs.declared.answer.LogAnswer.TheVariants.{Accepted, AcceptedRun}
use Rattle.chain_core.specs.declared.answer.LogAnswer.TheVariants.{DiskFault, OutOfMemory}
use Rattle.chain_core.specs.Links.{IsChain}
use Rattle.chain_core.specs.Patches.{links_of, patch_at}
use Rattle.chain_core.specs.Runs.{patches_in}
use Rattle.chain_core.specs.Decision.{run_decision}
use Rattle.chain_core.specs.Replies.{LogCall, append, append_run, fetch_version, fetch_id}
use Rattle.chain_core.specs.Replies.{LogReply, answered, found, log_reply}
use Rattle.patch_log.specs.State.{runs_in}
use Rattle.turn_cell.specs.Turns.{IsIn}
use Rattle.turn_cell.specs.Knowing.{seen_of}
use Rattle.shared_log.specs.History.{patches_known}
use Rattle.world_core.specs.World.{IsFrontOf, StandsAt}
use Rattle.deployment.specs.Calls.{IsToAppend, TellsAccepted, SeenCall}
use Rattle.deployment.specs.History.{PassRun, ServerRun, IsFoundIn}

-- in the place of an acceptance, a fault of the disk or want of memory was told
pub record IsExcused (limits : LogLimits) (call : LogCall) (reply : LogReply)
    (point : List Patch) : Type 0 where
  pub run : List Patch
  pub version : ℕ
  pub call_is : IsToAppend call run
  pub could : run_decision point run limits ≡ Accept version
  pub told : (reply ≡ answered DiskFault) ⊎ (reply ≡ answered OutOfMemory)

-- the chain gives this reply at this point
abbrev pub IsGivenAt : LogLimits → LogCall → LogReply → List Patch → Type 0
IsGivenAt limits call reply point =
    (reply ≡ log_reply limits call point) ⊎ IsExcused limits call reply point

-- The reply is the one that the chain gives at a point between runs, no earlier than all that the
-- pass had seen, and no later than what it saw then. What it told as accepted or served stands in
-- the chain.
pub record IsGiven (limits : LogLimits) (log : List (List Patch)) (seen : SeenCall) : Type 0 where
  pub point : List (List Patch)
  pub of_log : IsPrefix point log
  pub had_seen : IsFrontOf (patches_known (seen_of seen.before)) (patches_in point)
  pub seen_then : IsFrontOf (patches_in point) (patches_known (seen_of seen.after))
  pub gives : (reply : LogReply) → seen.reply ≡ Some reply
      → IsGivenAt limits seen.call reply (patches_in point)
  pub accepted : (patch : Patch) (version : ℕ) → seen.call ≡ append patch
      → seen.reply ≡ Some (answered (Accepted version))
      → patch_at (patches_in log) version ≡ Some patch
  pub accepted_run : (run : List Patch) (first last : ℕ) → seen.call ≡ append_run run
      → seen.reply ≡ Some (answered (AcceptedRun first last))
      → StandsAt (patches_in log) run first last
  pub served : (patch : Patch) (version : ℕ) → seen.call ≡ fetch_version version
      → seen.reply ≡ Some (found patch) → patch_at (patches_in log) version ≡ Some patch
  pub served_by_id : (patch : Patch) (id : Id) → seen.call ≡ fetch_id id
      → seen.reply ≡ Some (found patch)
      → (version : ℕ) × (patch_at (patches_in log) version ≡ Some patch)

-- the patch is one of the run that the call appends
abbrev pub IsHandedIn : LogCall → Patch → Type 0
IsHandedIn call patch = (run : List Patch) × IsToAppend call run × IsIn patch run

-- A patch that a call of a run handed in: one that was told as accepted, one that was told a fault
-- of the disk, or one without an answer at the stop.
pub data WasBrought {D : Type 0} (run : ServerRun D) (patch : Patch) : Type 0 where
  acknowledged : (pass : PassRun) → IsIn pass run.passes → (seen : SeenCall)
      → IsIn seen pass.calls → IsHandedIn seen.call patch → TellsAccepted seen.reply
      → WasBrought run patch
  in_doubt : (pass : PassRun) → IsIn pass run.passes → (seen : SeenCall) → IsIn seen pass.calls
      → IsHandedIn seen.call patch → seen.reply ≡ Some (answered DiskFault)
      → WasBrought run patch
  unanswered : (pass : PassRun) → IsIn pass run.passes → (call : LogCall)
      → pass.in_call ≡ Some call → IsHandedIn call patch → WasBrought run patch

-- One log, whose patches are a chain. That of each run of the server, and whatever a stop left,
-- begin it; each reply of each pass is given; and no patch is in it but those that the first run
-- found and those that were handed in.
pub record KeepsPromise {D : Type 0} (number : ℕ) (limits : LogLimits) (image : List ℕ)
    (runs : List (ServerRun D)) (log : List (List Patch)) : Type 0 where
  pub is_chain : IsChain (links_of (patches_in log))
  pub runs_begin : (run : ServerRun D) → IsIn run runs → IsPrefix (runs_in run.log) log
  pub images_begin : (run : ServerRun D) → IsIn run runs → (left : List (List Patch))
      → IsFoundIn run.image number limits left → IsPrefix left log
  pub replies : (run : ServerRun D) → IsIn run runs → (pass : PassRun) → IsIn pass run.passes
      → (seen : SeenCall) → IsIn seen pass.calls → IsGiven limits log seen
  pub brought : (first : List (List Patch)) → IsFoundIn image number limits first
      → (patch : Patch) → IsIn patch (patches_in log)
      → IsIn patch (patches_in first)
      ⊎ ((run : ServerRun D) × IsIn run runs × WasBrought run patch)
