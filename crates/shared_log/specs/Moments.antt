-- A log and its passes at any moment are as `close` would tell.
use Rattle.std.specs.Prelude.{◌≡◌, ℕ, List}
use Rattle.atomic_table.specs.Table.{State}
use Rattle.disk_model.specs.declared.disk.Disk.{Ghosts}
use Rattle.chain_core.specs.declared.chain.Patch.{Patch}
use Rattle.patch_log.specs.State.{LogView}
use Rattle.patch_log.specs.Tail.{log_of}
use Rattle.turn_cell.specs.declared.view.View.{View}
use Rattle.turn_cell.specs.Moments.{ArePassesAt}
use Rattle.turn_cell.specs.Sights.{Made}
use Rattle.turn_cell.specs.Sharing.{IsClosedOf}
use Rattle.twin_cell.specs.declared.parts.Kept.{Kept}
use Rattle.twin_cell.specs.Moments.{WorkLiesIn, ListLiesIn}
use Rattle.twin_cell.specs.Twins.{HoldsTwinRule}
use Rattle.shared_log.specs.declared.value.LogFixed.{LogFixed}
use Rattle.shared_log.specs.declared.value.LogList.{LogList}
use Rattle.shared_log.specs.declared.value.LogWork.{LogWork}
use Rattle.shared_log.specs.declared.value.Placed.{Placed}
use Rattle.shared_log.specs.History.{LogSight, shared_log}
use Rattle.shared_log.specs.Parts.{log_list, log_work}

module _ {D : Type 0} (disks : Ghosts D) where
  -- the cell of a log
  abbrev pub LogCell : Type 0
  LogCell = State (Kept (LogWork D disks) LogList) (View Placed (List Patch) LogFixed)

  -- the rule of the cell of a log that was made of these
  abbrev pub HoldsLogRule : LogWork D disks → LogList → ℕ → LogCell → Type 0
  HoldsLogRule work list seats s =
      HoldsTwinRule (log_work disks).stands (log_work disks).fault_count (log_work disks).doubt
      (log_work disks).fixed log_list.entries log_list.spare log_list.fits work list seats s

  -- the log of both parts
  abbrev pub log_of_parts : LogWork D disks → LogList → LogView D
  log_of_parts work list = log_of work.tail list.chain.items list.chain.spare

  -- both parts of the log lie in the cell
  pub record LogLiesIn (log : LogView D) (s : LogCell) : Type 0 where
    pub work : LogWork D disks
    pub list : LogList
    pub log_is : log ≡ log_of_parts work list
    pub work_lies : WorkLiesIn (log_work disks).stands (log_work disks).fault_count
        (log_work disks).doubt (log_work disks).fixed work s
    pub list_lies : ListLiesIn (log_work disks).stands (log_work disks).fault_count
        (log_work disks).doubt (log_work disks).fixed log_list.entries list s

  -- the cell of a shared log at a moment, with this log and these passes
  pub record IsLogMoment (made : Made (LogView D)) (log : LogView D) (passes : List LogSight)
      (s : LogCell) : Type 0 where
    pub work : LogWork D disks
    pub list : LogList
    pub made_of : made.origin ≡ log_of_parts work list
    pub rule : HoldsLogRule work list made.seats s
    pub lies : LogLiesIn log s
    pub passes_are : ArePassesAt s.views passes

  abbrev pub LogsAreClosedAtEachMoment : Type 0
  LogsAreClosedAtEachMoment =
      (made : Made (LogView D)) (log : LogView D) (passes : List LogSight) (s : LogCell)
      → IsLogMoment made log passes s → IsClosedOf (shared_log disks) made passes log
