-- Calls compose.
use Rattle.std.proofs.Common.{List, [], ◌∷◌, ◌++◌, subst}
use Rattle.disk_model.specs.declared.disk.Disk.{Ghosts}
use Rattle.patch_log.specs.State.{LogView}
use Rattle.turn_cell.specs.Sights.{Made}
use Rattle.shared_log.specs.History.{LogSight}
use Rattle.hall_logs.specs.Visits.{Visit, AreVisits}

module _ {D : Type 0} (disks : Ghosts D) (logs : List (Made (LogView D))) where
  pub compose_visits : (before mid after : List LogSight) (first then : List Visit) → AreVisits disks logs before first mid → AreVisits disks logs mid then after → AreVisits disks logs before (first ++ then) after
  compose_visits before mid after [] then a b = subst (λ (s : List LogSight). AreVisits disks logs s then after) a b
  compose_visits before mid after (visit ∷ more) then a b = (a.0, a.1, compose_visits a.0 mid after more then a.2 b)
