-- What a pass of a hall knows, and what it asks of the hall's lists: the registry's,
-- and each log's.
use Rattle.std.specs.Prelude.{◌≡◌, ℕ, List, [], ◌∷◌}
use Rattle.disk_model.specs.declared.disk.Disk.{Ghosts}
use Rattle.log_registry.specs.State.{StateView}
use Rattle.turn_cell.specs.Sights.{Made}
use Rattle.turn_cell.specs.Calls.{IsCalled}
use Rattle.shared_log.specs.History.{LogSight}
use Rattle.shared_registry.specs.History.{RegistrySight}
use Rattle.shared_registry.specs.Stays.{CalledOnRegistry}
use Rattle.shared_registry.specs.Lookups.{RegistryLookup, MayWantNames}
use Rattle.hall_logs.specs.Slots.{LogsOfHall}
use Rattle.hall_logs.specs.Visits.{Visit, IsVisit}

-- a registry, and the log of each of its slots
pub record HallView (D : Type 0) : Type 0 where
  pub registry : Made (StateView D)
  pub logs : LogsOfHall D

-- what a pass knows of each list
pub record Lists : Type 0 where
  pub registry : RegistrySight
  pub logs : List LogSight

-- and the number of which the next id of a source is made
pub record HallSight : Type 0 where
  pub lists : Lists
  pub dice : ℕ

-- a list is asked: the registry's, or that of a log
pub data Step : Type 0 where
  of_registry : RegistryLookup → Step
  of_log : Visit → Step

-- those that ask the registry, in their order
abbrev pub lookups_of : List Step → List RegistryLookup
lookups_of [] = []
lookups_of (of_registry asked ∷ more) = asked ∷ lookups_of more
lookups_of (of_log asked ∷ more) = lookups_of more

-- those that ask a log, in their order
abbrev pub visits_of : List Step → List Visit
visits_of [] = []
visits_of (of_registry asked ∷ more) = visits_of more
visits_of (of_log asked ∷ more) = asked ∷ visits_of more

module _ {D : Type 0} (disks : Ghosts D) (hall : HallView D) where
  -- one list is asked by a legal call with its stay, and what the pass knows of the others is as it
  -- was
  abbrev pub IsStep : Lists → Step → Lists → Type 0
  IsStep p (of_registry made) q =
      IsCalled (CalledOnRegistry disks hall.registry.origin) MayWantNames p.registry made q.registry
      × (q.logs ≡ p.logs)
  IsStep p (of_log visit) q =
      IsVisit disks hall.logs.logs p.logs visit q.logs × (q.registry ≡ p.registry)

  -- one step after another
  abbrev pub AreSteps : Lists → List Step → Lists → Type 0
  AreSteps p [] q = q ≡ p
  AreSteps p (step ∷ more) q = (next : Lists) × IsStep p step next × AreSteps next more q
