-- Runs of a hall, one after another, and the run that each is of the log of a slot.
use Rattle.std.specs.Prelude.{◌≡◌, ◌⊎◌, ℕ, ◌+◌, ◌<◌, List, [], ◌∷◌, length, map, slice_get}
use Rattle.std.specs.Prelude.{Option, Some, None, if◌then◌else◌, ◌==◌}
use Rattle.std.specs.List.{AllZip}
use Rattle.disk_model.specs.declared.disk.Disk.{Ghosts}
use Rattle.disk_model.specs.Past.{began, MayLeave, Keeps}
use Rattle.chain_core.specs.Replies.{LogCall}
use Rattle.registry_core.specs.Replies.{RegistryCall}
use Rattle.turn_cell.specs.Turns.{AllOf}
use Rattle.shared_log.specs.Moments.{LogCell, IsLogMoment}
use Rattle.shared_registry.specs.Moments.{RegistryCell, IsRegistryMoment}
use Rattle.hall_logs.specs.Slots.{EachHasItsSeats, OnSlot}
use Rattle.delta_session.specs.Ends.{IsEnded}
use Rattle.delta_session.specs.Halls.{AreHallPasses, AreNewPasses}
use Rattle.delta_session.specs.Opening.{IsOpenedHall}
use Rattle.delta_session.specs.Steps.{HallView, HallSight, Lists}
use Rattle.deployment.specs.Calls.{IsAmid}
use Rattle.deployment.specs.History.{PassRun, ServerRun, Leaves, sights_of}
use Rattle.registry_deployment.specs.Calls.{IsAmidOnRegistry}
use Rattle.registry_deployment.specs.History.{RegistryPassRun, RegistryRun, LeavesRegistry}
use Rattle.registry_deployment.specs.History.{registry_sights}
use Rattle.hall_deployment.specs.Seen.{SeenStep, AreSeenSteps, calls_at, lookups_in}

-- a step that had no answer at the stop: a call on the registry, or one on the log of a slot
pub data StepUnderWay : Type 0 where
  on_registry : RegistryCall → StepUnderWay
  on_log : ℕ → LogCall → StepUnderWay

-- what a pass of a hall did: what it knew as it was given, its steps that were answered, the one
-- that it was in at the stop, and what it knew then
pub record HallPassRun : Type 0 where
  pub given : HallSight
  pub steps : List SeenStep
  pub in_step : Option StepUnderWay
  pub at_stop : HallSight

-- One run of a hall: the disks that it was opened on, of which the first is the registry's; the
-- hall; what its passes did; and an image that was left of each disk.
pub record HallRun (D : Type 0) : Type 0 where
  pub disks : List D
  pub hall : HallView D
  pub passes : List HallPassRun
  pub images : List (List ℕ)

-- its passes as they were given, and as they were at the stop
abbrev pub given_in : {D : Type 0} → HallRun D → List HallSight
given_in run = map (λ pass. pass.given) run.passes

abbrev pub stopped_in : {D : Type 0} → HallRun D → List HallSight
stopped_in run = map (λ pass. pass.at_stop) run.passes

-- the call on the log at a place that a pass was in
abbrev pub in_call_at : ℕ → Option StepUnderWay → Option LogCall
in_call_at place None = None
in_call_at place (Some (on_registry call)) = None
in_call_at place (Some (on_log slot call)) = if slot == place + 1 then Some call else None

-- the call on the registry that it was in
abbrev pub in_lookup : Option StepUnderWay → Option RegistryCall
in_lookup None = None
in_lookup (Some (on_registry call)) = Some call
in_lookup (Some (on_log slot call)) = None

-- what a pass did on the registry
abbrev pub registry_part : HallPassRun → RegistryPassRun
registry_part pass = record {
  calls = lookups_in pass.steps;
  in_call = in_lookup pass.in_step;
  at_stop = pass.at_stop.lists.registry;
}

-- the run of the registry, whose file is the first
pub record IsRunOfRegistry {D : Type 0} (run : HallRun D) (registry_run : RegistryRun D) :
    Type 0 where
  pub made : registry_run.made ≡ run.hall.registry
  pub passes : registry_run.passes ≡ map registry_part run.passes
  pub image : slice_get run.images 0 ≡ Some registry_run.image

-- what a pass did on the log at a place
pub record IsPassAt (place : ℕ) (pass : HallPassRun) (part : PassRun) : Type 0 where
  pub calls : part.calls ≡ calls_at place pass.steps
  pub in_call : part.in_call ≡ in_call_at place pass.in_step
  pub at_stop : slice_get pass.at_stop.lists.logs place ≡ Some part.at_stop

-- the run of the log at a place, whose file is behind that of the registry
pub record IsRunAt {D : Type 0} (place : ℕ) (run : HallRun D) (log_run : ServerRun D) :
    Type 0 where
  pub made : slice_get run.hall.logs.logs place ≡ Some log_run.made
  pub passes : AllZip (IsPassAt place) run.passes log_run.passes
  pub image : slice_get run.images (place + 1) ≡ Some log_run.image

-- the pass behind its last step that was answered, and then, amid one more or in none
abbrev pub IsAmidStep : {D : Type 0} → HallView D → Lists → Option StepUnderWay → Lists → Type 0
IsAmidStep hall p None q = q ≡ p
IsAmidStep hall p (Some (on_registry call)) q =
    IsAmidOnRegistry p.registry (Some call) q.registry × (q.logs ≡ p.logs)
IsAmidStep hall p (Some (on_log slot call)) q =
    OnSlot slot (λ log part now. IsAmid part (Some call) now) hall.logs.logs p.logs q.logs
    × (q.registry ≡ p.registry)

module _ {D : Type 0} (disks : Ghosts D) where
  -- the pass made its steps, from the opening on, and may have been in one more
  pub record HasStepped (hall : HallView D) (pass : HallPassRun) : Type 0 where
    pub behind : Lists
    pub steps : AreSeenSteps disks hall pass.given.lists pass.steps behind
    pub amid : IsAmidStep hall behind pass.in_step pass.at_stop.lists

  -- The hall was closed with its passes, of which none was in a step, and a crash may leave these
  -- images of the disks that came back.
  pub record WasClosed (run : HallRun D) : Type 0 where
    pub left : List D
    pub in_none : AllOf (λ pass. pass.in_step ≡ None) run.passes
    pub ended : IsEnded disks run.hall (stopped_in run) left
    pub leaves : AllZip (λ disk image. MayLeave (disks.past disk) image) left run.images

  -- The hall was killed. By the rule of the registry's cell at that moment its passes had such parts
  -- of the registry, which lay in its turn or was with the change that was under way.
  pub record RegistryWasKilled (run : HallRun D) : Type 0 where
    pub registry_run : RegistryRun D
    pub of_run : IsRunOfRegistry run registry_run
    pub cell : RegistryCell disks
    pub moment : IsRegistryMoment disks registry_run.made registry_run.registry
        (registry_sights registry_run) cell
    pub leaves : LeavesRegistry disks registry_run.passes registry_run.registry
        registry_run.under_way registry_run.image

  -- And so it is of each log by the rule of its cell, whose parts lay in its turns or were with the
  -- append that was under way.
  pub record WasKilledAt (run : HallRun D) (place : ℕ) : Type 0 where
    pub log_run : ServerRun D
    pub at : IsRunAt place run log_run
    pub cell : LogCell disks
    pub moment : IsLogMoment disks log_run.made log_run.log (sights_of log_run) cell
    pub leaves : Leaves disks log_run.passes log_run.log log_run.under_way log_run.image

  pub record WasKilled (run : HallRun D) : Type 0 where
    pub registry : RegistryWasKilled run
    pub at : (place : ℕ) → place < length run.hall.logs.logs → WasKilledAt run place

  -- A run on these images, of disks that began with them: the hall was opened, its passes made
  -- their steps, and it was closed or killed.
  pub record IsHallRun (images : List (List ℕ)) (run : HallRun D) : Type 0 where
    pub begins : AllZip (λ disk image. Keeps (began image) (disks.past disk)) run.disks images
    pub opened : IsOpenedHall disks run.disks run.hall
    pub seats : run.hall.registry.seats ≡ run.hall.logs.seats
    pub each : EachHasItsSeats run.hall.logs
    pub all : AreHallPasses disks run.hall (given_in run)
    pub new : AreNewPasses disks run.hall 1 (given_in run)
    pub stepped : AllOf (HasStepped run.hall) run.passes
    pub stopped : WasClosed run ⊎ WasKilled run

-- runs one after another, each on the images that the one before left
abbrev pub AreHallRuns : {D : Type 0} → Ghosts D → List (List ℕ) → List (HallRun D) → Type 0
AreHallRuns disks images [] = Unit {0}
AreHallRuns disks images (run ∷ more) =
    IsHallRun disks images run × AreHallRuns disks run.images more
