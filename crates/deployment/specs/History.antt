-- A deployment of one log: runs of its server, each on the image that the run before left.
use Rattle.std.specs.Prelude.{◌≡◌, ℕ, List, [], ◌∷◌, Option, Some, None, map}
use Rattle.log_base.specs.declared.limits.LogLimits.{LogLimits}
use Rattle.disk_model.specs.declared.disk.Disk.{Ghosts}
use Rattle.disk_model.specs.Past.{MayLeave, MayHaveLeft}
use Rattle.log_journal.specs.File.{Holds}
use Rattle.chain_core.specs.declared.chain.Patch.{Patch}
use Rattle.chain_core.specs.declared.answer.LogAnswer.{LogAnswer}
use Rattle.chain_core.specs.Replies.{LogCall}
use Rattle.chain_core.specs.Runs.{AreWhole}
use Rattle.patch_log.specs.Log.{IsSoundRun, IsSoundLog, payloads_of}
use Rattle.patch_log.specs.State.{LogView, runs_in}
use Rattle.patch_log.specs.Run.{AppendedRun}
use Rattle.turn_cell.specs.Turns.{IsIn, AllOf}
use Rattle.turn_cell.specs.Sights.{Made, AreAll}
use Rattle.turn_cell.specs.Knowing.{pass_number}
use Rattle.turn_cell.specs.Sharing.{IsNewPassOf, IsClosedOf}
use Rattle.shared_log.specs.History.{LogSight, shared_log}
use Rattle.deployment.specs.Calls.{IsToAppend, SeenCall, AreSeenCalls, IsAmid}

-- what a pass did in a run of the server: its calls that were answered, the one that it was in at
-- the stop, and what it showed then
pub record PassRun : Type 0 where
  pub calls : List SeenCall
  pub in_call : Option LogCall
  pub at_stop : LogSight

-- an image holds a log of these runs of patches
pub record IsFoundIn (image : List ℕ) (number : ℕ) (limits : LogLimits)
    (found : List (List Patch)) : Type 0 where
  pub holds : Holds image number (payloads_of found)
  pub log : IsSoundLog limits found

-- an append that was under way when the machine stopped: of which pass and of which run, and what
-- it would have come to
pub record Unanswered (D : Type 0) : Type 0 where
  pub pass : PassRun
  pub run : List Patch
  pub answer : LogAnswer
  pub left : LogView D

-- One run of the server: the log as it was shared, what its passes did, the log that lay in the
-- turns at the stop or that the append under way had found there, and the image that was left.
pub record ServerRun (D : Type 0) : Type 0 where
  pub made : Made (LogView D)
  pub passes : List PassRun
  pub log : LogView D
  pub under_way : Option (Unanswered D)
  pub image : List ℕ

-- what its passes showed at the stop
abbrev pub sights_of : {D : Type 0} → ServerRun D → List LogSight
sights_of run = map (λ pass. pass.at_stop) run.passes

module _ {D : Type 0} (disks : Ghosts D) where
  -- the pass was given by the sharing, made these calls, and may have been in one more
  pub record HasCalled (made : Made (LogView D)) (pass : PassRun) : Type 0 where
    pub number : ℕ
    pub given : LogSight
    pub is_given : IsNewPassOf (shared_log disks) made number given
    pub behind : LogSight
    pub calls : AreSeenCalls disks made.origin given pass.calls behind
    pub amid : IsAmid behind pass.in_call pass.at_stop

  -- the append of a run that a pass is in a call to append, to this log
  pub record IsUnderWay (passes : List PassRun) (log : LogView D)
      (append : Unanswered D) : Type 0 where
    pub of_pass : IsIn append.pass passes
    pub call : LogCall
    pub in_call : append.pass.in_call ≡ Some call
    pub is_to : IsToAppend call append.run
    pub sound : IsSoundRun append.run
    pub appended : AppendedRun disks log append.left append.run
        (pass_number append.pass.at_stop) append.answer

  -- a stop between appends, or at any moment of the one that was under way
  abbrev pub Leaves : List PassRun → LogView D → Option (Unanswered D) → List ℕ → Type 0
  Leaves passes log None image = MayLeave (disks.past log.disk) image
  Leaves passes log (Some append) image =
      IsUnderWay passes log append
      × MayHaveLeft (disks.past log.disk) (disks.past append.left.disk) image

  -- A run on an image. What is said of its stop is what closing would have told then.
  pub record IsServerRun (number : ℕ) (limits : LogLimits) (image : List ℕ)
      (run : ServerRun D) : Type 0 where
    pub number_is : run.made.origin.number ≡ number
    pub limits_is : run.made.origin.limits ≡ limits
    pub opened : IsFoundIn image number limits (runs_in run.made.origin)
    pub whole : AreWhole run.made.origin.entries
    pub settled : run.made.origin.doubt ≡ None
    pub called : AllOf (HasCalled run.made) run.passes
    pub all_there : AreAll run.made.seats (sights_of run)
    pub at_stop : IsClosedOf (shared_log disks) run.made (sights_of run) run.log
    pub leaves : Leaves run.passes run.log run.under_way run.image

  -- runs one after another, from an image on
  abbrev pub AreServerRuns : ℕ → LogLimits → List ℕ → List (ServerRun D) → Type 0
  AreServerRuns number limits image [] = Unit {0}
  AreServerRuns number limits image (run ∷ more) =
      IsServerRun number limits image run × AreServerRuns number limits run.image more

-- what the last of them left
abbrev pub image_left : {D : Type 0} → List ℕ → List (ServerRun D) → List ℕ
image_left image [] = image
image_left image (run ∷ more) = image_left run.image more
