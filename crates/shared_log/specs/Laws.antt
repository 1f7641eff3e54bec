-- What is true of all calls on a log.
use Rattle.std.specs.Prelude.{◌≡◌, ℕ, ◌+◌, List, [], ◌++◌, Some, None, slice_get}
use mathlib.Core.List.{IsPrefix}
use Rattle.delta_base.specs.declared.id.Id.{Id}
use Rattle.disk_model.specs.declared.disk.Disk.{Ghosts}
use Rattle.chain_core.specs.declared.chain.Patch.{Patch}
use Rattle.chain_core.specs.declared.answer.LogAnswer.TheVariants.{Accepted, AcceptedRun}
use Rattle.chain_core.specs.Patches.{version_of, patch_at}
use Rattle.chain_core.specs.Replies.{LogCall, append, append_run, fetch_version, fetch_id}
use Rattle.chain_core.specs.Replies.{LogReply, answered, found}
use Rattle.patch_log.specs.State.{LogView}
use Rattle.turn_cell.specs.Knowing.{Wants, seen_of}
use Rattle.shared_log.specs.History.{LogSight, patches_known}
use Rattle.shared_log.specs.Stays.{CalledOnLog, IsOnDisk}
use Rattle.shared_log.specs.Calls.{CallOnLog, IsCalledOnLog, AreCalledOnLog, MayWant, LogAddsUp}
use Rattle.shared_log.specs.Calls.{call_made, run_faulted, AreSomeOf}

module _ {D : Type 0} (disks : Ghosts D) (origin : LogView D) where
  -- Who is told that a patch or a run was accepted, or is served the patch of a version or with an
  -- id, is told of what is on the disk of the log that the call left: of a run each patch, from the
  -- first version on.
  pub record ToldIsOnDisk (p q : LogSight) : Type 0 where
    pub accepted :
        (place : ℕ) (patch : Patch)
        → (called : CalledOnLog disks origin p (append patch) (answered (Accepted place)) q)
        → (on : IsOnDisk disks origin place patch q) × (on.log ≡ called.stay.left)
    pub accepted_run :
        (first last : ℕ) (run : List Patch)
        → (called : CalledOnLog disks origin p (append_run run)
        (answered (AcceptedRun first last)) q)
        → (k : ℕ) (patch : Patch) → slice_get run k ≡ Some patch
        → (on : IsOnDisk disks origin (first + k) patch q) × (on.log ≡ called.stay.left)
    pub served :
        (place : ℕ) (patch : Patch)
        → (called : CalledOnLog disks origin p (fetch_version place) (found patch) q)
        → (on : IsOnDisk disks origin place patch q) × (on.log ≡ called.stay.left)
    pub served_by_id :
        (id : Id) (patch : Patch)
        → (called : CalledOnLog disks origin p (fetch_id id) (found patch) q)
        → (place : ℕ) × (version_of (patches_known (seen_of q)) id ≡ Some place)
        × ((on : IsOnDisk disks origin place patch q) × (on.log ≡ called.stay.left))

  -- what is on the disk stands at its version in all that the pass sees later
  abbrev pub StaysInSight : LogSight → LogSight → Type 0
  StaysInSight q later =
      IsPrefix (seen_of q) (seen_of later) → (place : ℕ) (patch : Patch)
      → IsOnDisk disks origin place patch q
      → patch_at (patches_known (seen_of later)) place ≡ Some patch

  -- A legal call brings the places that it tells as accepted, and leaves in doubt at most the run
  -- whose append met a fault of the disk. Without a reply it brings nothing.
  pub record EachIsMade (p : LogSight) (call : LogCall) (q : LogSight) : Type 0 where
    pub replied :
        (reply : LogReply) → CalledOnLog disks origin p call reply q
        → (doubted : List (List Patch)) × AreSomeOf doubted (run_faulted call (Some reply))
        × IsCalledOnLog disks origin p (call_made call (Some reply) doubted) q
    pub wanted :
        MayWant call → Wants p q → IsCalledOnLog disks origin p (call_made call None []) q

  -- calls one after another and then others are all of them one after another
  abbrev pub CallsCompose : Type 0
  CallsCompose =
      (p mid q : LogSight) (first others : List CallOnLog)
      → AreCalledOnLog disks origin p first mid → AreCalledOnLog disks origin mid others q
      → AreCalledOnLog disks origin p (first ++ others) q

  abbrev pub CallsAddUp : Type 0
  CallsAddUp =
      (p q : LogSight) (calls : List CallOnLog)
      → AreCalledOnLog disks origin p calls q → LogAddsUp p calls q
