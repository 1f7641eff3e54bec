-- Appends to one log, one after another.
use Rattle.std.specs.Prelude.{◌≡◌, ◌≢◌, ◌⊎◌, ℕ, List, [], ◌∷◌}
use Rattle.std.specs.Prelude.{◌++◌, Bool, true, false, Option}
use Rattle.std.specs.List.{AllByRecursion}
use Rattle.log_base.specs.declared.limits.LogLimits.{LogLimits}
use Rattle.log_base.specs.declared.phase.Phase.{Phase}
use Rattle.disk_model.specs.declared.disk.Disk.{Ghosts}
use Rattle.disk_model.specs.Past.{MayLeave}
use Rattle.log_journal.specs.Writing.{HoldsDuring}
use Rattle.log_journal.specs.Written.{DiskWent, Written}
use Rattle.chain_core.specs.declared.chain.Patch.{Patch}
use Rattle.chain_core.specs.declared.chain.Entry.{Entry}
use Rattle.chain_core.specs.declared.fate.Fate.{Fate}
use Rattle.chain_core.specs.declared.answer.Decision.TheVariants.{Accept}
use Rattle.chain_core.specs.declared.answer.LogAnswer.{LogAnswer}
use Rattle.chain_core.specs.declared.answer.LogAnswer.TheVariants.{Accepted, AcceptedRun, Known}
use Rattle.chain_core.specs.declared.answer.LogAnswer.TheVariants.{Conflict, Full, DiskFault}
use Rattle.chain_core.specs.declared.answer.LogAnswer.TheVariants.{OutOfMemory}
use Rattle.chain_core.specs.Decision.{run_decision}
use Rattle.chain_core.specs.Runs.{AreWhole, entries_of, patches_in, run_text}
use Rattle.chain_core.specs.Log.{LogPoint, up}
use Rattle.chain_core.specs.Stay.{RunStay, fate_of}
use Rattle.patch_log.specs.Log.{payloads_of, run_payload, StandsForLog}
use Rattle.patch_log.specs.State.{LogView, runs_in, point_of}

-- memory ran out before the disk was asked: nothing changed, and the run could have been accepted
pub record WantsForAppend (limits : LogLimits) (runs : List (List Patch))
    (doubt : Option (List Patch)) (run : List Patch)
    (after : LogPoint (List Patch)) (answer : LogAnswer) : Type 0 where
  pub told : answer ≡ OutOfMemory
  pub same : after ≡ up runs doubt
  pub could : (version : ℕ) × (run_decision (patches_in runs) run limits ≡ Accept version)

-- one append to a log that runs: a stay with some fate, or want of memory
abbrev pub AppendsRun : LogLimits → List (List Patch) → Option (List Patch) → List Patch
    → LogPoint (List Patch) → LogAnswer → Type 0
AppendsRun limits runs doubt run after answer =
    ((fate : Fate) × RunStay limits (up runs doubt) run fate after answer)
    ⊎ WantsForAppend limits runs doubt run after answer

-- A run that can be accepted is written behind the log's payloads. The fate of the stay is that
-- of the phase that failed, or of none.
pub record WritesRun {D : Type 0} (disks : Ghosts D) (before after : LogView D) (run : List Patch)
    (answer : LogAnswer) : Type 0 where
  pub version : ℕ
  pub can : run_decision (patches_in (runs_in before)) run before.limits ≡ Accept version
  pub end : Option Phase
  pub stay : RunStay before.limits (point_of before) run (fate_of end) (point_of after) answer
  pub written : Written disks before.disk after.disk before.number (payloads_of (runs_in before))
      (run_payload before.doubt) (run_text run) end

-- The disk isn't asked, and the log stays as it is but for the places that are ready. Unless memory
-- is wanted, the fate is none of the disk's.
pub record AsksNoDisk {D : Type 0} (before after : LogView D) (run : List Patch)
    (answer : LogAnswer) : Type 0 where
  pub same : after ≡ record before { spare = after.spare }
  pub never : (version : ℕ) → answer ≢ Accepted version
  pub stays : answer ≢ OutOfMemory → (fate : Fate)
      → RunStay before.limits (point_of before) run fate (point_of after) answer

-- One append of a run that this pass brings, to a log that its disk stood for.
pub record AppendedRun {D : Type 0} (disks : Ghosts D) (before after : LogView D)
    (run : List Patch) (by : ℕ) (answer : LogAnswer) : Type 0 where
  pub stood : disks.tells → StandsForLog (disks.past before.disk) before.number before.limits
      (runs_in before) before.doubt
  pub appends : AppendsRun before.limits (runs_in before) before.doubt run
      (point_of after) answer
  pub asks : WritesRun disks before after run answer ⊎ AsksNoDisk before after run answer
  -- its runs were whole, and are whole
  pub found_whole : AreWhole before.entries
  pub left_whole : AreWhole after.entries
  pub accepted : (version : ℕ) → answer ≡ Accepted version
      → after.entries ≡ before.entries ++ entries_of run by
  pub refused : ((version : ℕ) → answer ≢ Accepted version) → after.entries ≡ before.entries
  pub went : DiskWent disks (answer ≡ DiskFault) before.disk after.disk
  -- a disk that isn't asked stays as it is
  pub untouched : answer ≢ DiskFault → ((version : ℕ) → answer ≢ Accepted version)
      → after.disk ≡ before.disk
  pub limits : after.limits ≡ before.limits
  pub number : after.number ≡ before.number

-- One append of a patch that this pass brings: it is a run by itself.
abbrev pub Appended : {D : Type 0} → Ghosts D → LogView D → LogView D → Patch → ℕ → LogAnswer
    → Type 0
Appended disks before after patch by answer =
    AppendedRun disks before after (patch ∷ []) by answer

-- some entries more, all brought by this pass
abbrev pub GrowsBy : ℕ → List Entry → List Entry → Type 0
GrowsBy by before after =
    (more : List Entry) × (after ≡ before ++ more) × AllByRecursion (λ entry. entry.by ≡ by) more

-- appends one after another, with their answers
abbrev pub AppendedAll : {D : Type 0} → Ghosts D → ℕ → LogView D → List (List Patch)
    → List LogAnswer → LogView D → Type 0
AppendedAll disks by before [] [] after = after ≡ before
AppendedAll {D} disks by before (run ∷ runs) (answer ∷ answers) after =
    (mid : LogView D) × AppendedRun disks before mid run by answer
    × AppendedAll disks by mid runs answers after
AppendedAll disks by before [] (answer ∷ answers) after = ⊥
AppendedAll disks by before (run ∷ runs) [] after = ⊥

-- while these runs are added, one after another, an image holds what it may hold during one of the
-- appends, or is as before them all
abbrev pub HoldsInSeries : {D : Type 0} → Ghosts D → ℕ → LogView D → List (List Patch) → List ℕ
    → Type 0
HoldsInSeries {D} disks by before runs image =
    MayLeave (disks.past before.disk) image
    ⊎ ((done : List (List Patch)) × (run : List Patch) × (behind : List (List Patch))
    × (runs ≡ done ++ run ∷ behind) × (answers : List LogAnswer) × (mid : LogView D)
    × AppendedAll disks by before done answers mid
    × HoldsDuring before.number (payloads_of (runs_in mid)) (run_payload mid.doubt) (run_text run)
    image)

-- whether it is a fault of the disk
abbrev pub is_disk_fault : LogAnswer → Bool
is_disk_fault (Accepted version) = false
is_disk_fault (AcceptedRun first version) = false
is_disk_fault (Known version same) = false
is_disk_fault (Conflict version head prev_version) = false
is_disk_fault (Full what have limit) = false
is_disk_fault DiskFault = true
is_disk_fault OutOfMemory = false
