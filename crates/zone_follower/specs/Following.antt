-- What following a log makes of a shared zone: calls of one pass, each legal at its point.
use Rattle.std.specs.Prelude.{◌≡◌, ℕ, List, Option, Result, Ok, Err}
use Rattle.delta_base.specs.declared.id.Id.{Id}
use Rattle.disk_model.specs.declared.disk.Disk.{Ghosts}
use Rattle.patch_meaning.specs.Checked.{CheckedPatch}
use Rattle.patch_meaning.specs.Patch.{IsPatchFault}
use Rattle.zone_state.specs.declared.answer.TakeAnswer.{TakeAnswer}
use Rattle.zone_state.specs.declared.answer.TakeAnswer.TheVariants as answers
use Rattle.turn_cell.specs.Sharing.{FoundInTurn}
use Rattle.shared_zone.specs.declared.answers.Stayed.{Stayed}
use Rattle.shared_zone.specs.declared.answers.Stayed.TheVariants.{Ahead, Asked}
use Rattle.shared_zone.specs.History.{SharedZone, ZoneSight, shared_zone}
use Rattle.shared_zone.specs.Legal.{LegalDescribe, LegalStay}
use Rattle.shared_zone.specs.Stays.{TakesInTurn}
use Rattle.catch_up.specs.declared.end.RunEnd.{RunEnd}
use Rattle.catch_up.specs.Runs.{IsRunTo, Run}
use Rattle.follower.specs.declared.ends.SyncEnd.{SyncEnd}
use Rattle.follower.specs.declared.ends.TextRefusal.{TextRefusal}
use Rattle.follower.specs.declared.ends.TextRefusal.TheVariants.{BadPatch, Diverged, Repeated}
use Rattle.follower.specs.declared.ends.TextRefusal.TheVariants.{Full, TermsFull, DiskFault}
use Rattle.follower.specs.declared.ends.TextRefusal.TheVariants.{OutOfMemory}
use Rattle.follower.specs.Grown.{IsText}
use Rattle.follower.specs.Syncing.{sync_end}

-- why the zone isn't asked for a text: it is no patch; want of memory is free
abbrev pub IsUnaskedFor : List ℕ → ℕ → TextRefusal → Type 0
IsUnaskedFor text version (BadPatch at fault) = (at ≡ version) × IsPatchFault text fault
IsUnaskedFor text version OutOfMemory = Unit {0}
IsUnaskedFor text version other = ⊥

-- what a zone that had so many patches answered to the patch of this id: up to which version there
-- are patches then, or why it isn't taken
abbrev pub answer_told : TakeAnswer → Id → ℕ → Result ℕ TextRefusal
answer_told (answers.Applied version) id had = Ok version
answer_told (answers.Diverged have prev) id had = Err (Diverged had have prev)
answer_told (answers.Repeated version) id had = Err (Repeated version id)
answer_told (answers.Full what have limit) id had = Err (Full what have limit)
answer_told answers.TermsFull id had = Err TermsFull
answer_told answers.OutOfMemory id had = Err OutOfMemory
answer_told answers.DiskFault id had = Err DiskFault

-- what a stay with that patch came to; where the zone had its version already, that goes on behind
-- the version found
abbrev pub stay_told : Stayed → Id → Result ℕ TextRefusal
stay_told (Ahead found) id = Ok found
stay_told (Asked had answer) id = answer_told answer id had

module _ {D : Type 0} (disks : Ghosts D) (origin : SharedZone D) where
  -- the zone is asked what it has
  abbrev pub ShowsZone : ZoneSight → ℕ → Option Id → ZoneSight → Type 0
  ShowsZone p version head q =
      LegalDescribe origin.base p (record { version = version; head = head }) q
      × FoundInTurn (shared_zone disks) origin p q

  -- the text is that of a patch, with which the pass has one stay in the turn
  pub record StaysWithText (p : ZoneSight) (version : ℕ) (text : List ℕ)
      (result : Result ℕ TextRefusal) (q : ZoneSight) : Type 0 where
    pub patch : CheckedPatch
    pub is_text : IsText text patch
    pub stayed : Stayed
    pub legal : LegalStay origin.base origin.zone.limits patch version p stayed q
    pub stay : TakesInTurn disks origin patch version stayed p q
    pub told : result ≡ stay_told stayed patch.meaning.id

  -- what the text of a version comes to: the zone isn't asked, or has it in a stay
  pub data ComesToText (p : ZoneSight) (version : ℕ) (text : List ℕ)
      (result : Result ℕ TextRefusal) (q : ZoneSight) : Type 0 where
    unasked : (refusal : TextRefusal) → IsUnaskedFor text version refusal → result ≡ Err refusal
        → q ≡ p → ComesToText p version text result q
    stayed_with : StaysWithText p version text result q → ComesToText p version text result q

  -- the zone was asked what it had, then took what the peer answered, and it ended by that
  pub record Followed (p : ZoneSight) (run : Run) (end : SyncEnd) (q : ZoneSight) : Type 0 where
    pub run_end : RunEnd TextRefusal
    pub ended : end ≡ sync_end run_end
    pub taken : IsRunTo ComesToText ShowsZone p run run_end q
