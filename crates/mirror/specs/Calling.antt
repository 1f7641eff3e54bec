-- The calls on its log that a pull is.
use Rattle.std.specs.Prelude.{◌≡◌, ◌⊎◌, ◌≤◌, List}
use Rattle.disk_model.specs.declared.disk.Disk.{Ghosts}
use Rattle.chain_core.specs.declared.chain.Patch.{Patch}
use Rattle.chain_core.specs.Replies.{append, describe}
use Rattle.patch_log.specs.State.{LogView}
use Rattle.turn_cell.specs.Calls.{faulted_by}
use Rattle.turn_cell.specs.Turns.{AllOf}
use Rattle.shared_log.specs.Calls.{AreCalledOnLog, CallOnLog, tells_fault}
use Rattle.shared_log.specs.History.{LogSight}
use Rattle.delta_client.specs.Exchanges.{WasSaid}
use Rattle.catch_up.specs.Runs.{Run, said_in}
use Rattle.mirror.specs.declared.ends.PullEnd.{PullEnd}
use Rattle.mirror.specs.declared.ends.PullEnd.TheVariants.{DiskFault}
use Rattle.mirror.specs.Following.{IsReadFrom}
use Rattle.mirror.specs.Pulling.{Pulled}

-- it asks what the log has, or appends a patch whose text was said
abbrev pub IsOfPull : List WasSaid → CallOnLog → Type 0
IsOfPull said made =
    (made.call ≡ describe)
    ⊎ ((patch : Patch) × (made.call ≡ append patch) × IsReadFrom said patch)

-- A pull by calls of its pass, one after another. Where it ended by a fault of the disk, one of
-- them was told of that.
pub record IsByCalls {D : Type 0} (disks : Ghosts D) (origin : LogView D) (p : LogSight) (run : Run)
    (end : PullEnd) (q : LogSight) : Type 0 where
  pub calls : List CallOnLog
  pub called : AreCalledOnLog disks origin p calls q
  pub of_pull : AllOf (IsOfPull (said_in run)) calls
  pub faulted : end ≡ DiskFault → 1 ≤ faulted_by tells_fault calls

abbrev pub PullsAreCalls : {D : Type 0} → Ghosts D → LogView D → Type 0
PullsAreCalls disks origin =
    (p q : LogSight) (run : Run) (end : PullEnd) → Pulled disks origin p run end q
    → IsByCalls disks origin p run end q
