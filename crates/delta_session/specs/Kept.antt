-- What a session tells of patches is on the disks of their logs, and stays there.
use Rattle.std.specs.Prelude.{◌≡◌, ◌⊎◌, ℕ, ◌+◌, List, Some, slice_get}
use mathlib.Core.List.{IsPrefix}
use Rattle.delta_base.specs.declared.id.Id.{Id}
use Rattle.disk_model.specs.declared.disk.Disk.{Ghosts}
use Rattle.chain_core.specs.declared.chain.Patch.{Patch}
use Rattle.chain_core.specs.declared.answer.LogAnswer.TheVariants.{Accepted, AcceptedRun}
use Rattle.chain_core.specs.Patches.{patch_at}
use Rattle.chain_core.specs.Replies.{append, append_run, fetch_version, fetch_id}
use Rattle.chain_core.specs.Replies.{answered, found}
use Rattle.patch_log.specs.State.{LogView}
use Rattle.turn_cell.specs.Turns.{IsIn}
use Rattle.turn_cell.specs.Sights.{Made}
use Rattle.turn_cell.specs.Knowing.{seen_of}
use Rattle.shared_log.specs.History.{LogSight, patches_known}
use Rattle.shared_log.specs.Calls.{CallOnLog}
use Rattle.shared_log.specs.Stays.{IsOnDisk}
use Rattle.hall_logs.specs.Visits.{Visit}
use Rattle.delta_session.specs.Steps.{HallView, Lists, Step, of_log}

-- the reply tells that a run was accepted from a first version on, and the patch has this one
pub record TellsInRun (made : CallOnLog) (version : ℕ) (patch : Patch) : Type 0 where
  pub run : List Patch
  pub first : ℕ
  pub last : ℕ
  pub before : ℕ
  pub call_is : made.call ≡ append_run run
  pub reply_is : made.reply ≡ Some (answered (AcceptedRun first last))
  pub patch_is : slice_get run before ≡ Some patch
  pub version_is : version ≡ first + before

-- the reply tells that the patch was accepted at this version, by itself or in a run, or it serves
-- the patch of it
abbrev pub TellsPatch : CallOnLog → ℕ → Patch → Type 0
TellsPatch made place patch =
    ((made.call ≡ append patch) × (made.reply ≡ Some (answered (Accepted place))))
    ⊎ TellsInRun made place patch
    ⊎ ((made.call ≡ fetch_version place) × (made.reply ≡ Some (found patch)))

-- the reply serves the patch with an id
abbrev pub ServesById : CallOnLog → Patch → Type 0
ServesById made patch = (id : Id) × (made.call ≡ fetch_id id) × (made.reply ≡ Some (found patch))

module _ {D : Type 0} (disks : Ghosts D) (hall : HallView D) where
  -- When it was told, the patch of this version was in each image that a crash might leave of the
  -- file of the slot's log; and of that log the pass sees it there ever since.
  pub record IsKept (slot version : ℕ) (patch : Patch) (after : Lists) : Type 0 where
    pub place : ℕ
    pub slot_is : slot ≡ place + 1
    pub log : Made (LogView D)
    pub log_is : slice_get hall.logs.logs place ≡ Some log
    pub told : LogSight
    pub on_disk : IsOnDisk disks log.origin version patch told
    pub now : LogSight
    pub now_is : slice_get after.logs place ≡ Some now
    pub sees_on : IsPrefix (seen_of told) (seen_of now)
    pub still_there : patch_at (patches_known (seen_of now)) version ≡ Some patch

  -- so of each reply in these steps: of a patch that was accepted, and of one that was served
  pub record KeepsWhatItTells (steps : List Step) (after : Lists) : Type 0 where
    pub told :
        (visit : Visit) → IsIn (of_log visit) steps → (version : ℕ) (patch : Patch)
        → TellsPatch visit.asked version patch → IsKept visit.slot version patch after
    pub served_by_id :
        (visit : Visit) → IsIn (of_log visit) steps → (patch : Patch)
        → ServesById visit.asked patch → (version : ℕ) × IsKept visit.slot version patch after
