-- Many calls of one pass on the logs of slots.
use Rattle.std.specs.Prelude.{◌≡◌, ℕ, List, [], ◌∷◌, if◌then◌else◌, ◌==◌}
use Rattle.disk_model.specs.declared.disk.Disk.{Ghosts}
use Rattle.patch_log.specs.State.{LogView}
use Rattle.turn_cell.specs.Sights.{Made}
use Rattle.shared_log.specs.History.{LogSight, SeesWhole}
use Rattle.shared_log.specs.Calls.{CallOnLog, IsCalledOnLog}
use Rattle.hall_logs.specs.Slots.{OnSlot}

-- a call on the log of a slot
pub record Visit : Type 0 where
  pub slot : ℕ
  pub asked : CallOnLog

-- those on the log of one slot, in their order
abbrev pub asked_at : ℕ → List Visit → List CallOnLog
asked_at slot [] = []
asked_at slot (visit ∷ more) =
    if visit.slot == slot then visit.asked ∷ asked_at slot more else asked_at slot more

module _ {D : Type 0} (disks : Ghosts D) (logs : List (Made (LogView D))) where
  -- One legal call of a pass on the log of its slot. In all that the pass then sees of that log
  -- each run stands whole.
  abbrev pub IsVisit : List LogSight → Visit → List LogSight → Type 0
  IsVisit before visit after =
      OnSlot visit.slot (λ log p q. IsCalledOnLog disks log.origin p visit.asked q × SeesWhole q)
      logs before after

  -- legal calls of a pass one after another
  abbrev pub AreVisits : List LogSight → List Visit → List LogSight → Type 0
  AreVisits before [] after = after ≡ before
  AreVisits before (visit ∷ more) after =
      (next : List LogSight) × IsVisit before visit next × AreVisits next more after

  -- the pass made some legal calls
  abbrev pub HasVisited : List LogSight → List LogSight → Type 0
  HasVisited before after = (visits : List Visit) × AreVisits before visits after
