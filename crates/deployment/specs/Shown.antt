-- Who shows that a run of the server is one of a deployment's.
use Rattle.std.specs.Prelude.{◌≡◌, ℕ, List, None}
use Rattle.log_base.specs.declared.limits.LogLimits.{LogLimits}
use Rattle.disk_model.specs.declared.disk.Disk.{Ghosts}
use Rattle.disk_model.specs.Past.{began, reads, Keeps}
use Rattle.log_journal.specs.File.{Holds}
use Rattle.chain_core.specs.Runs.{AreWhole}
use Rattle.patch_log.specs.Log.{IsSoundLog, payloads_of}
use Rattle.patch_log.specs.State.{LogView, runs_in}
use Rattle.turn_cell.specs.Turns.{AllOf}
use Rattle.turn_cell.specs.Sights.{Made, AreAll}
use Rattle.turn_cell.specs.Sharing.{IsNewPassOf, AreAllPassesOf, IsClosedOf}
use Rattle.shared_log.specs.History.{LogSight, shared_log}
use Rattle.shared_log.specs.Moments.{LogCell, IsLogMoment}
use Rattle.deployment.specs.Calls.{AreSeenCalls}
use Rattle.deployment.specs.History.{PassRun, ServerRun, HasCalled, Leaves}
use Rattle.deployment.specs.History.{IsServerRun, sights_of}

module _ {D : Type 0} (disks : Ghosts D) where
  -- the log as it was opened, on a disk that began with the image and still reads it, as any crash
  -- leaves it
  pub record IsBegun (number : ℕ) (limits : LogLimits) (image : List ℕ)
      (run : ServerRun D) : Type 0 where
    pub disk : D
    pub begins : Keeps (began image) (disks.past disk)
    pub payloads : disks.tells → Holds (reads (disks.past disk)) number
        (payloads_of (runs_in run.made.origin))
    pub log : IsSoundLog limits (runs_in run.made.origin)
    pub whole : AreWhole run.made.origin.entries
    pub settled : (run.made.origin.doubt ≡ None) × (run.made.origin.number ≡ number)
        × (run.made.origin.limits ≡ limits)

  -- the pass was given by the sharing, and is as its last call left it
  pub record HasReturned (made : Made (LogView D)) (pass : PassRun) : Type 0 where
    pub number : ℕ
    pub given : LogSight
    pub is_given : IsNewPassOf (shared_log disks) made number given
    pub calls : AreSeenCalls disks made.origin given pass.calls pass.at_stop
    pub in_none : pass.in_call ≡ None

  -- a run that was closed: by what the opening, the sharing, the calls and the close ensure
  abbrev pub ClosedRunsAreRuns : Type 0
  ClosedRunsAreRuns =
      (number : ℕ) (limits : LogLimits) (image : List ℕ) (run : ServerRun D)
      → disks.tells → IsBegun number limits image run
      → AllOf (HasReturned run.made) run.passes
      → AreAllPassesOf (shared_log disks) run.made (sights_of run)
      → IsClosedOf (shared_log disks) run.made (sights_of run) run.log
      → Leaves disks run.passes run.log run.under_way run.image
      → IsServerRun disks number limits image run

  -- a run that was killed: by what the opening, the sharing and the calls ensure, and the rule of
  -- the log's cell
  abbrev pub KilledRunsAreRuns : Type 0
  KilledRunsAreRuns =
      (number : ℕ) (limits : LogLimits) (image : List ℕ) (run : ServerRun D) (s : LogCell disks)
      → disks.tells → IsBegun number limits image run
      → AllOf (HasCalled disks run.made) run.passes
      → AreAll run.made.seats (sights_of run)
      → IsLogMoment disks run.made run.log (sights_of run) s
      → Leaves disks run.passes run.log run.under_way run.image
      → IsServerRun disks number limits image run
