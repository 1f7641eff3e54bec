-- Which calls of a pass are legal, as a relation over what the pass knew before the call, its
-- reply, and what the pass knows behind it. A pass knows a history: entries, each with its patch,
-- how many of its run stand behind it, and the number of the pass that brought it.
use Rattle.std.specs.Prelude.{◌≡◌, ◌⊎◌, ℕ, zero, suc, ◌+◌, ◌<◌, List, [], ◌∷◌, ◌++◌, length}
use Rattle.std.specs.Prelude.{Bool, true, false}
use mathlib.Core.List.{IsPrefix}
use Rattle.delta_base.specs.Outside.{Rose}
use Rattle.log_base.specs.declared.limits.LogLimits.{LogLimits}
use Rattle.chain_core.specs.declared.chain.Patch.{Patch}
use Rattle.chain_core.specs.declared.answer.Decision.TheVariants.{Accept}
use Rattle.chain_core.specs.declared.answer.LogAnswer.{LogAnswer}
use Rattle.chain_core.specs.declared.answer.LogAnswer.TheVariants.{Accepted, AcceptedRun}
use Rattle.chain_core.specs.declared.answer.LogAnswer.TheVariants.{Known as IsKnown}
use Rattle.chain_core.specs.declared.answer.LogAnswer.TheVariants.{Conflict as IsConflict}
use Rattle.chain_core.specs.declared.answer.LogAnswer.TheVariants.{Full as IsFull}
use Rattle.chain_core.specs.declared.answer.LogAnswer.TheVariants.{DiskFault, OutOfMemory}
use Rattle.chain_core.specs.Decision.{run_decision}
use Rattle.chain_core.specs.Runs.{entries_of}
use Rattle.chain_core.specs.Replies.{LogCall, append, append_run, fetch_version, fetch_id}
use Rattle.chain_core.specs.Replies.{describe, version, as_run, LogReply, answered, log_reply}
use Rattle.turn_cell.specs.declared.view.Known.{Known}
use Rattle.turn_cell.specs.Knowing.{SeesOn, IsQuiet, pass_number}
use Rattle.turn_cell.specs.Knowing.{seen_of, mine_of, failed_of, own_faults_of}
use Rattle.shared_log.specs.declared.value.Placed.{Placed}
use Rattle.shared_log.specs.History.{history_of, patches_known, LogSight}

-- the history that the pass then knows gives this reply, and the pass did nothing else
abbrev pub IsReply : LogLimits → LogCall → LogReply → LogSight → LogSight → Type 0
IsReply limits call reply p q =
    (reply ≡ log_reply limits call (patches_known (seen_of q))) × IsQuiet p q

-- the history that the pass then knows would take the run
abbrev pub WouldTake : LogLimits → List Patch → LogSight → Type 0
WouldTake limits run q =
    (place : ℕ) × (run_decision (patches_known (seen_of q)) run limits ≡ Accept place)

-- so many places behind this one
abbrev pub places_behind : ℕ → ℕ → List ℕ
places_behind place zero = []
places_behind place (suc count) = (place + 1) ∷ places_behind (place + 1) count

-- The last entries are the run's, with the pass's number and the rests from its length minus 1 to
-- 0. They stand behind all that the pass had seen, and the last of them at this place.
pub record BroughtRun (run : List Patch) (place : ℕ) (p q : LogSight) : Type 0 where
  pub before : List (Known Placed)
  pub had_seen : IsPrefix (seen_of p) before
  pub sees : seen_of q ≡ before ++ history_of (entries_of run (pass_number p))
  pub at_end : place ≡ length (seen_of q)
  pub mine : mine_of q ≡ mine_of p ++ places_behind (length before) (length run)
  pub failed : failed_of q ≡ failed_of p

-- the pass has brought the run up to this place, where the chain before it takes it
abbrev pub IsAccepted : LogLimits → List Patch → ℕ → LogSight → LogSight → Type 0
IsAccepted limits run place p q =
    (brought : BroughtRun run place p q)
    × (run_decision (patches_known brought.before) run limits ≡ Accept place)

-- the run may be left as a doubt
abbrev pub MayLeaveRun : List Patch → LogSight → LogSight → Type 0
MayLeaveRun run p q =
    (failed_of q ≡ failed_of p) ⊎ (failed_of q ≡ failed_of p ++ run ∷ [])

-- whether the disk was asked for a run that got this answer
abbrev pub asks_disk : LogAnswer → Bool
asks_disk (Accepted place) = true
asks_disk (AcceptedRun first place) = true
asks_disk (IsKnown place same) = false
asks_disk (IsConflict place head named) = false
asks_disk (IsFull what have limit) = false
asks_disk DiskFault = true
asks_disk OutOfMemory = false

-- An answer to a call that appends a run. That it is accepted, the log answers with the version of
-- its last patch.
abbrev pub IsAppendAnswer : LogLimits → LogCall → List Patch → LogAnswer → LogSight → LogSight
    → Type 0
IsAppendAnswer limits call run (Accepted place) p q = IsAccepted limits run place p q
IsAppendAnswer limits call run (AcceptedRun first place) p q = ⊥
IsAppendAnswer limits call run (IsKnown place same) p q =
    IsReply limits call (answered (IsKnown place same)) p q
IsAppendAnswer limits call run (IsConflict place head named) p q =
    IsReply limits call (answered (IsConflict place head named)) p q
IsAppendAnswer limits call run (IsFull what have limit) p q =
    IsReply limits call (answered (IsFull what have limit)) p q
-- the disk failed in this pass's own stay
IsAppendAnswer limits call run DiskFault p q =
    WouldTake limits run q × Rose (own_faults_of p) (own_faults_of q) × (mine_of q ≡ mine_of p)
    × MayLeaveRun run p q
IsAppendAnswer limits call run OutOfMemory p q = WouldTake limits run q × IsQuiet p q

-- a patch is appended as a run by itself; a run has one patch at least
abbrev pub IsLogTold : LogLimits → LogCall → LogReply → LogSight → LogSight → Type 0
IsLogTold limits (append patch) reply p q =
    (answer : LogAnswer) × (reply ≡ answered answer)
    × IsAppendAnswer limits (append patch) (patch ∷ []) answer p q
IsLogTold limits (append_run run) reply p q =
    (answer : LogAnswer) × (reply ≡ answered (as_run (length run) answer))
    × IsAppendAnswer limits (append_run run) run answer p q × (0 < length run)
IsLogTold limits (fetch_version place) reply p q = IsReply limits (fetch_version place) reply p q
IsLogTold limits (fetch_id id) reply p q = IsReply limits (fetch_id id) reply p q
IsLogTold limits describe reply p q = IsReply limits describe reply p q
IsLogTold limits version reply p q = IsReply limits version reply p q

-- a call of a pass with its reply, on a log of these limits
abbrev pub LegalOnLog : LogLimits → LogSight → LogCall → LogReply → LogSight → Type 0
LegalOnLog limits before call reply after =
    SeesOn before after × IsLogTold limits call reply before after
