-- What is found when a hall is opened again, over what a stop may have left of its disks.
use Rattle.std.specs.Prelude.{◌≡◌, ◌⊎◌, ℕ, ◌+◌, List, [], ◌∷◌, Option, map}
use Rattle.std.specs.List.{AllZip}
use mathlib.Core.List.{IsPrefix}
use Rattle.log_base.specs.OneMore.{with_one_more}
use Rattle.disk_model.specs.Past.{reads, MayLeave}
use Rattle.disk_model.specs.declared.disk.Disk.{Ghosts}
use Rattle.chain_core.specs.declared.chain.Patch.{Patch}
use Rattle.chain_core.specs.Runs.{patches_in}
use Rattle.registry_core.specs.declared.event.Event.{Event}
use Rattle.log_registry.specs.State.{StateView, events_in}
use Rattle.patch_log.specs.State.{LogView, runs_in}
use Rattle.turn_cell.specs.Turns.{AllOf}
use Rattle.turn_cell.specs.Sights.{Made}
use Rattle.turn_cell.specs.Sharing.{IsClosedOf}
use Rattle.turn_cell.specs.Knowing.{seen_of}
use Rattle.shared_log.specs.History.{LogSight, patches_known, shared_log}
use Rattle.shared_registry.specs.History.{RegistrySight, events_seen, shared_registry}
use Rattle.hall_logs.specs.Ends.{parts_at}
use Rattle.delta_session.specs.Steps.{HallView, HallSight}

-- the list that was, or this one and what was in doubt
abbrev pub IsFoundAgain : {A : Type 0} → List A → Option A → List A → Type 0
IsFoundAgain was doubt found = (found ≡ was) ⊎ (found ≡ with_one_more was doubt)

module _ {D : Type 0} (disks : Ghosts D) where
  -- a crash may leave of each disk what the other one reads
  abbrev pub AreImages : List D → List D → Type 0
  AreImages left again =
      AllZip (λ disk image. MayLeave (disks.past disk) (reads (disks.past image))) left again

  -- The events that are found are those of the registry as its passes left it, or these and the
  -- one in doubt; so they begin with all that each pass has seen.
  pub record FindsRegistry (made : Made (StateView D)) (passes : List RegistrySight)
      (found : List Event) : Type 0 where
    pub closed : StateView D
    pub is : IsClosedOf (shared_registry disks) made passes closed
    pub again : IsFoundAgain (events_in closed) closed.doubt found
    pub seen : AllOf (λ pass. IsPrefix (events_seen pass) found) passes

  -- and so the runs of a log, whose patches begin with all that each pass has seen
  pub record FindsLog (made : Made (LogView D)) (parts : List LogSight)
      (found : List (List Patch)) : Type 0 where
    pub closed : LogView D
    pub is : IsClosedOf (shared_log disks) made parts closed
    pub again : IsFoundAgain (runs_in closed) closed.doubt found
    pub seen :
        AllOf (λ part. IsPrefix (patches_known (seen_of part)) (patches_in found)) parts

  -- those of the logs from this place on
  abbrev pub FindsLogs :
      ℕ → List (Made (LogView D)) → List (List LogSight) → List (LogView D) → Type 0
  FindsLogs place [] passes [] = Unit {0}
  FindsLogs place (log ∷ logs) passes (found ∷ more) =
      FindsLog log (parts_at place passes) (runs_in found) × FindsLogs (place + 1) logs passes more
  FindsLogs place [] passes (found ∷ more) = ⊥
  FindsLogs place (log ∷ logs) passes [] = ⊥

  -- each list of the hall is found again
  pub record FindsHall (hall : HallView D) (passes : List HallSight)
      (opened : HallView D) : Type 0 where
    pub registry :
        FindsRegistry hall.registry (map (λ pass. pass.lists.registry) passes)
        (events_in opened.registry.origin)
    pub logs :
        FindsLogs 0 hall.logs.logs (map (λ pass. pass.lists.logs) passes)
        (map (λ log. log.origin) opened.logs.logs)
