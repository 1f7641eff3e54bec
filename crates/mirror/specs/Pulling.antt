-- What pulling makes of a log: calls of one pass, each legal at its point of the list.
use Rattle.std.specs.Prelude.{◌≡◌, ◌⊎◌, ℕ, Bool, true, List, [], ◌∷◌, Option, Some}
use Rattle.std.specs.Prelude.{Result, Ok, Err}
use Rattle.delta_base.specs.declared.id.Id.{Id}
use Rattle.disk_model.specs.declared.disk.Disk.{Ghosts}
use Rattle.chain_core.specs.declared.answer.LogAnswer.{LogAnswer}
use Rattle.chain_core.specs.declared.answer.LogAnswer.TheVariants as answers
use Rattle.chain_core.specs.declared.chain.Patch.{Patch}
use Rattle.chain_core.specs.Replies.{LogCall, append, describe, LogReply, answered, described}
use Rattle.patch_log.specs.Opening.{IsPatchRead}
use Rattle.patch_log.specs.State.{LogView}
use Rattle.patch_meaning.specs.Patch.{IsPatchFault}
use Rattle.rpc_answers.specs.declared.answer.Answer.TheVariants as origin_says
use Rattle.shared_log.specs.History.{LogSight, SeesWhole}
use Rattle.shared_log.specs.Stays.{CalledOnLog}
use Rattle.catch_up.specs.declared.end.RunEnd.{RunEnd}
use Rattle.catch_up.specs.Runs.{IsRunTo, Run}
use Rattle.mirror.specs.declared.ends.PullEnd.{PullEnd}
use Rattle.mirror.specs.declared.ends.PullEnd.TheVariants.{CaughtUp}
use Rattle.mirror.specs.declared.ends.PullRefusal.{PullRefusal}
use Rattle.mirror.specs.declared.ends.PullRefusal.TheVariants.{BadPatch, Diverged, Full}
use Rattle.mirror.specs.declared.ends.PullRefusal.TheVariants.{DiskFault, OutOfMemory}
use Rattle.mirror.specs.Ends.{end_of_pull}

-- why a text isn't appended: it is no patch; want of memory is free
abbrev pub IsTextRefusal : List ℕ → ℕ → PullRefusal → Type 0
IsTextRefusal text version (BadPatch at fault) = (at ≡ version) × IsPatchFault text fault
IsTextRefusal text version OutOfMemory = Unit {0}
IsTextRefusal text version other = ⊥

-- the log has the patch that is appended, with its text, at the version that it was fetched as
abbrev pub IsThere : ℕ → ℕ → Bool → Type 0
IsThere version at same = (at ≡ version) × (same ≡ true)

module _ {D : Type 0} (disks : Ghosts D) (origin : LogView D) where
  -- a legal call of the pass with its stay, behind which it sees each run whole
  abbrev pub CallsLog : LogSight → LogCall → LogReply → LogSight → Type 0
  CallsLog p call reply q = CalledOnLog disks origin p call reply q × SeesWhole q

  -- the log is asked what it has
  abbrev pub ShowsLog : LogSight → ℕ → Option Id → LogSight → Type 0
  ShowsLog p version head q = CallsLog p describe (described version head) q

  -- What the log's answer to the patch of a version comes to, which has the other id. A patch that
  -- is accepted, or that is there, is taken. One that names another patch before it diverges; and
  -- one whose id stands at another version or with another text, and then the log is asked what it
  -- has.
  abbrev pub ComesOf : ℕ → Option Id → LogAnswer → LogSight → Result ℕ PullRefusal → LogSight
      → Type 0
  ComesOf version theirs (answers.Accepted at) p result q = (result ≡ Ok version) × (q ≡ p)
  ComesOf version theirs (answers.AcceptedRun first last) p result q = ⊥
  ComesOf version theirs (answers.Known at same) p result q =
      (IsThere version at same × (result ≡ Ok version) × (q ≡ p))
      ⊎ ((IsThere version at same → ⊥) × ((has : ℕ) × (head : Option Id)
      × (result ≡ Err (Diverged has head theirs)) × ShowsLog p has head q))
  ComesOf version theirs (answers.Conflict has head named) p result q =
      (result ≡ Err (Diverged has head theirs)) × (q ≡ p)
  ComesOf version theirs (answers.Full what have limit) p result q =
      (result ≡ Err (Full what have limit)) × (q ≡ p)
  ComesOf version theirs answers.DiskFault p result q = (result ≡ Err DiskFault) × (q ≡ p)
  ComesOf version theirs answers.OutOfMemory p result q = (result ≡ Err OutOfMemory) × (q ≡ p)

  -- the text is that of a patch, which is appended by itself
  pub record AppendsText (p : LogSight) (version : ℕ) (text : List ℕ)
      (result : Result ℕ PullRefusal) (q : LogSight) : Type 0 where
    pub patch : Patch
    pub read : IsPatchRead text (patch ∷ [])
    pub answer : LogAnswer
    pub mid : LogSight
    pub appended : CallsLog p (append patch) (answered answer) mid
    pub comes : ComesOf version (Some patch.id) answer mid result q

  -- what the text of a version comes to: the log isn't asked, or it is appended
  pub data TakesText (p : LogSight) (version : ℕ) (text : List ℕ) (result : Result ℕ PullRefusal)
      (q : LogSight) : Type 0 where
    unasked : (refusal : PullRefusal) → IsTextRefusal text version refusal → result ≡ Err refusal
        → q ≡ p → TakesText p version text result q
    asked : AppendsText p version text result q → TakesText p version text result q

  -- A pull: the log took what the origin answered and it ended by that. Where it caught up, this
  -- version was answered.
  pub record Pulled (p : LogSight) (run : Run) (end : PullEnd) (q : LogSight) : Type 0 where
    pub run_end : RunEnd PullRefusal
    pub ended : end ≡ end_of_pull run_end
    pub taken : IsRunTo TakesText ShowsLog p run run_end q
    pub answered_first : (version : ℕ) → end ≡ CaughtUp version
        → (head : Option Id) × (run.log ≡ Ok (origin_says.Info version head) ∷ [])
