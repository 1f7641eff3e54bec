-- The laws.
use Rattle.std.specs.Prelude.{ℕ, List}
use Rattle.log_base.specs.declared.limits.LogLimits.{LogLimits}
use Rattle.disk_model.specs.declared.disk.Disk.{Ghosts}
use Rattle.chain_core.specs.declared.chain.Patch.{Patch}
use Rattle.deployment.specs.History.{ServerRun, AreServerRuns, IsServerRun, IsFoundIn, image_left}
use Rattle.deployment.specs.Promise.{KeepsPromise}

module _ {D : Type 0} (disks : Ghosts D) where
  -- whatever log is found at the end of a deployment keeps its promise
  abbrev pub DeploymentsKeepTheirPromise : Type 0
  DeploymentsKeepTheirPromise =
      (number : ℕ) (limits : LogLimits) (image : List ℕ) (runs : List (ServerRun D))
      (found : List (List Patch)) → disks.tells → AreServerRuns disks number limits image runs
      → IsFoundIn (image_left image runs) number limits found
      → KeepsPromise number limits image runs found

  -- whatever a run leaves is a log
  abbrev pub StopsLeaveALog : Type 0
  StopsLeaveALog =
      (number : ℕ) (limits : LogLimits) (image : List ℕ) (run : ServerRun D)
      → disks.tells → IsServerRun disks number limits image run
      → (found : List (List Patch)) × IsFoundIn run.image number limits found
