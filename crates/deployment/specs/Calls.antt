-- Calls of one pass on one log, one after another, with what it showed before and behind each.
use Rattle.std.specs.Prelude.{◌≡◌, ℕ, List, [], ◌∷◌, ◌++◌, Option, Some, None}
use mathlib.Core.List.{IsPrefix}
use Rattle.disk_model.specs.declared.disk.Disk.{Ghosts}
use Rattle.chain_core.specs.declared.chain.Patch.{Patch}
use Rattle.chain_core.specs.declared.answer.LogAnswer.TheVariants.{Accepted, AcceptedRun}
use Rattle.chain_core.specs.Replies.{LogCall, append, append_run, LogReply, answered}
use Rattle.patch_log.specs.State.{LogView}
use Rattle.turn_cell.specs.Calls.{IsReplied}
use Rattle.turn_cell.specs.Knowing.{seen_of, mine_of, failed_of}
use Rattle.shared_log.specs.History.{LogSight, SeesWhole}
use Rattle.shared_log.specs.Legal.{BroughtRun}
use Rattle.shared_log.specs.Stays.{CalledOnLog}
use Rattle.shared_log.specs.Calls.{MayWant}

-- the call appends this run; a patch is a run by itself
abbrev pub IsToAppend : LogCall → List Patch → Type 0
IsToAppend (append patch) run = run ≡ patch ∷ []
IsToAppend (append_run more) run = run ≡ more
IsToAppend call run = ⊥

-- the reply tells that a run was accepted
abbrev pub TellsAccepted : Option LogReply → Type 0
TellsAccepted (Some (answered (Accepted version))) = Unit {0}
TellsAccepted (Some (answered (AcceptedRun first last))) = Unit {0}
TellsAccepted reply = ⊥

-- a call with its reply, or without one where memory ran out
pub record SeenCall : Type 0 where
  pub before : LogSight
  pub call : LogCall
  pub reply : Option LogReply
  pub after : LogSight

module _ {D : Type 0} (disks : Ghosts D) (origin : LogView D) where
  -- The call was legal, with its stay, and only a fetch went without a reply. In all that the pass
  -- then saw each run stands whole.
  abbrev pub IsLegalCall : SeenCall → Type 0
  IsLegalCall seen =
      IsReplied (CalledOnLog disks origin) MayWant seen.before seen.call seen.reply seen.after
      × SeesWhole seen.after

  -- legal calls, each by the pass as the one before it left it
  abbrev pub AreSeenCalls : LogSight → List SeenCall → LogSight → Type 0
  AreSeenCalls p [] q = q ≡ p
  AreSeenCalls p (seen ∷ more) q =
      (seen.before ≡ p) × IsLegalCall seen × AreSeenCalls seen.after more q

-- what a pass has done so far in a call: nothing, or it brought the run that it is to append, or
-- left it in doubt
pub data HasDone (call : LogCall) (p q : LogSight) : Type 0 where
  nothing : mine_of q ≡ mine_of p → failed_of q ≡ failed_of p → HasDone call p q
  brought : (run : List Patch) (place : ℕ) → IsToAppend call run → BroughtRun run place p q
      → HasDone call p q
  doubted : (run : List Patch) → IsToAppend call run → mine_of q ≡ mine_of p
      → failed_of q ≡ failed_of p ++ run ∷ [] → HasDone call p q

-- the pass behind its last call that was answered, and then, amid one more or in none
abbrev pub IsAmid : LogSight → Option LogCall → LogSight → Type 0
IsAmid p None q = q ≡ p
IsAmid p (Some call) q = IsPrefix (seen_of p) (seen_of q) × HasDone call p q
