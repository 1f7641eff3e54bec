-- What a call does with a log in its turn, and that what it tells is on the disk.
use Rattle.std.specs.Prelude.{◌≡◌, ℕ, List, length, Some}
use Rattle.std.specs.List.{AllByRecursion}
use Rattle.disk_model.specs.declared.disk.Disk.{Ghosts}
use Rattle.disk_model.specs.Past.{EveryImage}
use Rattle.log_journal.specs.File.{Holds}
use Rattle.chain_core.specs.declared.chain.Patch.{Patch}
use Rattle.chain_core.specs.declared.answer.LogAnswer.{LogAnswer}
use Rattle.chain_core.specs.Patches.{patches_of, patch_at}
use Rattle.chain_core.specs.Runs.{patches_in, run_texts}
use Rattle.chain_core.specs.Replies.{LogCall, append, append_run, fetch_version, fetch_id}
use Rattle.chain_core.specs.Replies.{describe, version, as_run, LogReply, answered, log_reply}
use Rattle.patch_log.specs.Log.{IsSoundRun}
use Rattle.patch_log.specs.State.{LogView}
use Rattle.patch_log.specs.Run.{Appended, AppendedRun}
use Rattle.turn_cell.specs.Knowing.{pass_number, seen_of}
use Rattle.turn_cell.specs.Sharing.{InTurn}
use Rattle.shared_log.specs.History.{LogSight, history_of, fixed_of, patches_known, shared_log}
use Rattle.shared_log.specs.Legal.{LegalOnLog}

-- an image holds the patch at its version: its payloads are runs, one of which has it
abbrev pub HoldsPatchAt : ℕ → ℕ → Patch → List ℕ → Type 0
HoldsPatchAt number place patch image =
    (runs : List (List Patch)) × Holds image number (run_texts runs)
    × AllByRecursion IsSoundRun runs × (patch_at (patches_in runs) place ≡ Some patch)

module _ {D : Type 0} (disks : Ghosts D) where
  -- the log is left as it was found, and its chain gives this reply
  abbrev pub Asks : LogCall → LogReply → LogView D → LogView D → Type 0
  Asks call reply found left =
      (left ≡ found) × (reply ≡ log_reply found.limits call (patches_of found.entries))

  -- what the pass with this number does in the turn: it appends, or only asks
  abbrev pub DoesOnLog : ℕ → LogCall → LogReply → LogView D → LogView D → Type 0
  DoesOnLog by (append patch) reply found left =
      (answer : LogAnswer) × (reply ≡ answered answer)
      × Appended disks found left patch by answer
  DoesOnLog by (append_run run) reply found left =
      (answer : LogAnswer) × (reply ≡ answered (as_run (length run) answer))
      × AppendedRun disks found left run by answer
  DoesOnLog by (fetch_version place) reply found left = Asks (fetch_version place) reply found left
  DoesOnLog by (fetch_id id) reply found left = Asks (fetch_id id) reply found left
  DoesOnLog by describe reply found left = Asks describe reply found left
  DoesOnLog by version reply found left = Asks version reply found left

  -- a stay of a pass in the turn of this log
  abbrev pub StayOnLog : LogView D → LogCall → LogReply → LogSight → LogSight → Type 0
  StayOnLog origin call reply p q =
      InTurn (shared_log disks) (DoesOnLog (pass_number p) call reply) origin p q

  -- each call has its stay, but the one that only counts, which takes no turn
  abbrev pub HasStay : LogView D → LogCall → LogReply → LogSight → LogSight → Type 0
  HasStay origin (append patch) reply p q = StayOnLog origin (append patch) reply p q
  HasStay origin (append_run run) reply p q = StayOnLog origin (append_run run) reply p q
  HasStay origin (fetch_version place) reply p q =
      StayOnLog origin (fetch_version place) reply p q
  HasStay origin (fetch_id id) reply p q = StayOnLog origin (fetch_id id) reply p q
  HasStay origin describe reply p q = StayOnLog origin describe reply p q
  HasStay origin version reply p q = Unit {0}

  -- a legal call of a pass of this log, with its stay
  pub record CalledOnLog (origin : LogView D) (p : LogSight) (call : LogCall) (reply : LogReply)
      (q : LogSight) : Type 0 where
    pub legal : LegalOnLog origin.limits p call reply q
    pub stay : HasStay origin call reply p q

  -- The patch of this version is on the disk: of a log of that file and of just this history, each
  -- image that a crash may leave holds it at its place.
  pub record IsOnDisk (origin : LogView D) (place : ℕ) (patch : Patch) (q : LogSight) : Type 0 where
    pub log : LogView D
    pub file : fixed_of disks.mark log ≡ fixed_of disks.mark origin
    pub sees : seen_of q ≡ history_of log.entries
    pub stands_in_it : patch_at (patches_known (seen_of q)) place ≡ Some patch
    pub images :
        disks.tells → EveryImage (disks.past log.disk) (HoldsPatchAt log.number place patch)
