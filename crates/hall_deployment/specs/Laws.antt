-- The laws.
use Rattle.std.specs.Prelude.{◌≡◌, ℕ, ◌+◌, List, [], ◌∷◌, map, Some, slice_get}
use Rattle.std.specs.List.{AllZip}
use Rattle.disk_model.specs.declared.disk.Disk.{Ghosts}
use Rattle.log_base.specs.declared.limits.TheConstants.{LOG_LIMITS}
use Rattle.chain_core.specs.declared.chain.Patch.{Patch}
use Rattle.log_base.specs.declared.source_info.SourceInfo.{SourceInfo}
use Rattle.registry_core.specs.declared.event.Event.{Event}
use Rattle.registry_core.specs.Replies.{resolve, found}
use Rattle.http_session.specs.Output.{Exchange}
use Rattle.patch_log.specs.State.{LogView}
use Rattle.turn_cell.specs.Sights.{Made}
use Rattle.turn_cell.specs.Turns.{AllOf}
use Rattle.shared_log.specs.History.{LogSight}
use Rattle.hall_logs.specs.Visits.{asked_at}
use Rattle.delta_session.specs.Sessions.{ServedSession, AreSaid, all_of}
use Rattle.delta_session.specs.Steps.{HallView, HallSight, Lists, Step, of_registry, of_log}
use Rattle.delta_session.specs.Steps.{visits_of}
use Rattle.deployment.specs.Calls.{AreSeenCalls}
use Rattle.deployment.specs.History.{ServerRun, IsServerRun, IsFoundIn, image_left}
use Rattle.deployment.specs.Promise.{KeepsPromise}
use Rattle.registry_deployment.specs.History.{RegistryRun, IsRegistryRun, IsRegistryIn}
use Rattle.registry_deployment.specs.History.{registry_left}
use Rattle.registry_deployment.specs.Promise.{KeepsRegistryPromise}
use Rattle.hall_deployment.specs.Halls.{HallRun, IsHallRun, AreHallRuns, IsRunAt, IsRunOfRegistry}
use Rattle.hall_deployment.specs.Seen.{SeenStep, AreSeenSteps, steps_in, calls_at}
use Rattle.hall_deployment.specs.Seen.{exchange_seen, exchange_made}

module _ {D : Type 0} (disks : Ghosts D) where
  -- the steps by which the requests of a session were answered, with what its pass knew
  pub record ShowsSteps (hall : HallView D) (before : HallSight) (exchanges : List Exchange)
      (after : HallSight) : Type 0 where
    pub steps : List (List Step)
    pub said : AreSaid before.dice exchanges steps after.dice
    pub seen : List SeenStep
    pub are_those : steps_in seen ≡ all_of steps
    pub taken : AreSeenSteps disks hall before.lists seen after.lists

  -- so it is of each session that was served
  abbrev pub SessionsShowSteps : Type 0
  SessionsShowSteps =
      (hall : HallView D) (before after : HallSight) (exchanges : List Exchange)
      → ServedSession disks hall before exchanges after
      → ShowsSteps hall before exchanges after

  -- Of one log, the calls of these steps are legal ones, each by the pass as the one before it left
  -- it. They are all calls on that log, with their replies.
  pub record ShowsCalls (place : ℕ) (origin : LogView D) (part : LogSight)
      (seen : List SeenStep) (after : Lists) : Type 0 where
    pub left : LogSight
    pub left_is : slice_get after.logs place ≡ Some left
    pub calls : AreSeenCalls disks origin part (calls_at place seen) left
    pub asked :
        map exchange_seen (calls_at place seen)
        ≡ map exchange_made (asked_at (place + 1) (visits_of (steps_in seen)))

  -- so it is of each log of which the pass has a part
  abbrev pub SessionsShowCalls : Type 0
  SessionsShowCalls =
      (hall : HallView D) (before after : Lists) (seen : List SeenStep)
      → AreSeenSteps disks hall before seen after
      → (place : ℕ) (log : Made (LogView D)) (part : LogSight)
      → slice_get hall.logs.logs place ≡ Some log → slice_get before.logs place ≡ Some part
      → ShowsCalls place log.origin part seen after

  -- of the log of each file, the run of a hall is a run of its server
  abbrev pub HallRunsAreRuns : Type 0
  HallRunsAreRuns =
      (images : List (List ℕ)) (run : HallRun D)
      → disks.tells → IsHallRun disks images run
      → (place : ℕ) (image : List ℕ) → slice_get images (place + 1) ≡ Some image
      → (log_run : ServerRun D) × IsRunAt place run log_run
      × IsServerRun disks (place + 1) LOG_LIMITS image log_run

  -- So each log of a hall keeps its promise, over all runs: whatever is found of it at their end,
  -- the replies of all passes are given by that.
  abbrev pub HallsKeepTheirPromise : Type 0
  HallsKeepTheirPromise =
      (images : List (List ℕ)) (runs : List (HallRun D))
      → disks.tells → AreHallRuns disks images runs
      → (place : ℕ) (image : List ℕ) → slice_get images (place + 1) ≡ Some image
      → (log_runs : List (ServerRun D)) × AllZip (IsRunAt place) runs log_runs
      × ((found : List (List Patch))
      → IsFoundIn (image_left image log_runs) (place + 1) LOG_LIMITS found
      → KeepsPromise (place + 1) LOG_LIMITS image log_runs found)

  -- and of file 0 it is a run of the registry's
  abbrev pub HallRunsAreRegistryRuns : Type 0
  HallRunsAreRegistryRuns =
      (images : List (List ℕ)) (run : HallRun D)
      → disks.tells → IsHallRun disks images run
      → (image : List ℕ) → slice_get images 0 ≡ Some image
      → (registry_run : RegistryRun D) × IsRunOfRegistry run registry_run
      × IsRegistryRun disks image registry_run

  -- so the registry of a hall keeps its promise, over all runs
  abbrev pub HallsKeepTheirRegistry : Type 0
  HallsKeepTheirRegistry =
      (images : List (List ℕ)) (runs : List (HallRun D))
      → disks.tells → AreHallRuns disks images runs
      → (image : List ℕ) → slice_get images 0 ≡ Some image
      → (registry_runs : List (RegistryRun D)) × AllZip IsRunOfRegistry runs registry_runs
      × ((slots : ℕ) (events : List Event)
      → IsRegistryIn (registry_left image registry_runs) slots events
      → KeepsRegistryPromise image registry_runs slots events)

-- ---- names

-- The steps of a request: a log is asked only behind a look-up of a name, and it is that of the slot
-- of the source that was found.
abbrev pub AskByName : List Step → Type 0
AskByName [] = Unit {0}
AskByName (of_registry made ∷ []) = Unit {0}
AskByName (of_registry made ∷ of_log visit ∷ []) =
    (name : List ℕ) × (source : SourceInfo) × (made.call ≡ resolve name)
    × (made.reply ≡ Some (found (Some source))) × (visit.slot ≡ source.slot)
AskByName other = ⊥

-- so it is of each request of a session
abbrev pub SessionsAskByName : Type 0
SessionsAskByName =
    (dice last : ℕ) (exchanges : List Exchange) (steps : List (List Step))
    → AreSaid dice exchanges steps last → AllOf AskByName steps
