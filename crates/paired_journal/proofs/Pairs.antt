-- What the disks of two files leave.
use Rattle.std.proofs.Common.{◌≡◌, inl, inr, arith, ℕ, ◌+◌, Bool, true, false, List, Option, Some, None, Result, Ok, Err, refl, sym, subst}
use Rattle.std.specs.Prelude.{not, is_ok, if◌then◌else◌, OnOk, OnErr}
use Rattle.disk_model.specs.declared.disk.Disk.{Ghosts}
use Rattle.disk_model.specs.Past.{EveryImage, LeavesOnly}
use Rattle.disk_model.proofs.Moments.{weaker, starts}
use Rattle.log_journal.specs.Journal.{HoldsWithOrWithout}
use Rattle.log_journal.specs.declared.journal.Journal.{Journal}
use Rattle.log_journal.specs.StandsFor.{StandsFor, StandsInDoubt, Leaves, disk_of}
use Rattle.log_journal.specs.Writing.{StandsWith, HoldsDuring}
use Rattle.log_journal.proofs.Steps.{either}
use Rattle.zone_files.specs.Pair.{IsEarlier}
use Rattle.zone_files.proofs.Together.{later_next, later_before}
use Rattle.zone_beside.specs.declared.beside.Beside.{Beside}
use Rattle.zone_beside.specs.Beside.{MayHoldBeside, MayHoldWriting}
use Rattle.zone_beside.specs.StandsBehind.{StandsBehind}
use Rattle.log_journal.specs.Written.{DiskWent}
use Rattle.paired_journal.specs.Pair.{HoldsWith, DisksWent}

-- the generation that was current is earlier than the next one
pub before_next : (second : Bool) (g : ℕ) → IsEarlier (not second) (g + 1) (Some g)
before_next true g = later_before g
before_next false g = later_next g

pub not_twice : (b : Bool) → not (not b) ≡ b
not_twice true = refl
not_twice false = refl

pub holds_during : (number : ℕ) (payloads : List (List ℕ)) (doubt : Option (List ℕ)) (payload image : List ℕ) → HoldsWith number payloads doubt image → HoldsDuring number payloads doubt payload image
holds_during number payloads None payload image holds = inl holds
holds_during number payloads (Some doubt) payload image holds = inl holds

module _ {D : Type 0} {disks : Ghosts D} where
  -- what the images of a journal hold
  images_with : (journal : Journal D disks) (number : ℕ) (payloads : List (List ℕ)) (doubt : Option (List ℕ)) → disks.tells → StandsWith journal number payloads doubt → EveryImage (disks.past (disk_of journal)) (HoldsWith number payloads doubt)
  images_with journal number payloads None told stands = (stands.1 told).each
  images_with journal number payloads (Some doubt) told stands = λ image left.
      let in_doubt = stands.1 told in
      either 0 number payloads doubt in_doubt.doubt_sized in_doubt.few image in_doubt.sized (in_doubt.each image left)

  -- no call was made
  pub none_made : (journal : Journal D disks) (number : ℕ) (payloads : List (List ℕ)) (doubt : Option (List ℕ)) (payload : List ℕ) → disks.tells → StandsWith journal number payloads doubt → LeavesOnly (HoldsDuring number payloads doubt payload) (disks.past (disk_of journal)) (disks.past (disk_of journal))
  none_made journal number payloads doubt payload told stands =
      weaker (HoldsWith number payloads doubt) (HoldsDuring number payloads doubt payload) (λ image holds. holds_during number payloads doubt payload image holds) (disks.past (disk_of journal)) (disks.past (disk_of journal))
      (starts (HoldsWith number payloads doubt) (disks.past (disk_of journal)) (images_with journal number payloads doubt told stands))

  -- settling a journal
  pub settling : (old new : Journal D disks) (number : ℕ) (payloads : List (List ℕ)) (doubt : Option (List ℕ)) → disks.tells → (old.settled ≡ true → new ≡ old)
      → ((number : ℕ) (payloads : List (List ℕ)) (doubt : List ℕ) → StandsInDoubt old number payloads doubt → Leaves (HoldsWithOrWithout number payloads doubt) old new)
      → StandsWith old number payloads doubt → LeavesOnly (HoldsWith number payloads doubt) (disks.past (disk_of old)) (disks.past (disk_of new))
  settling old new number payloads None told nothing leaves stands =
      subst (λ (j : Journal D disks). LeavesOnly (HoldsWith number payloads None) (disks.past (disk_of old)) (disks.past (disk_of j))) (sym (nothing stands.0))
      (starts (HoldsWith number payloads None) (disks.past (disk_of old)) (images_with old number payloads None told stands))
  settling old new number payloads (Some doubt) told nothing leaves stands = leaves number payloads doubt stands told

  pub settled : (old new : Journal D disks) (number : ℕ) (payloads : List (List ℕ)) (doubt : Option (List ℕ)) → (old.settled ≡ true → new ≡ old)
      → ((number : ℕ) (payloads : List (List ℕ)) (doubt : List ℕ) → StandsInDoubt old number payloads doubt → StandsFor new number payloads)
      → StandsWith old number payloads doubt → StandsFor new number payloads
  settled old new number payloads None nothing settles stands = subst (λ (j : Journal D disks). StandsFor j number payloads) (sym (nothing stands.0)) stands
  settled old new number payloads (Some doubt) nothing settles stands = settles number payloads doubt stands

  pub unsettled : (old new : Journal D disks) (number : ℕ) (payloads : List (List ℕ)) (doubt : Option (List ℕ)) → (old.settled ≡ true → new ≡ old)
      → ((number : ℕ) (payloads : List (List ℕ)) (doubt : List ℕ) → StandsInDoubt old number payloads doubt → StandsInDoubt new number payloads doubt)
      → StandsWith old number payloads doubt → StandsWith new number payloads doubt
  unsettled old new number payloads None nothing stays stands = subst (λ (j : Journal D disks). StandsFor j number payloads) (sym (nothing stands.0)) stands
  unsettled old new number payloads (Some doubt) nothing stays stands = stays number payloads doubt stands

  -- of the file beside, where no call was made
  pub other_kept : (beside : Beside D disks) (doubt : Option (List ℕ)) (payload : List ℕ) → disks.tells → StandsBehind beside doubt → LeavesOnly (MayHoldWriting beside.on_second beside.generation doubt payload) (disks.past beside.disk) (disks.past beside.disk)
  other_kept beside doubt payload told stands =
      weaker (MayHoldBeside beside.on_second beside.generation doubt) (MayHoldWriting beside.on_second beside.generation doubt payload) (λ image held. inl held) (disks.past beside.disk) (disks.past beside.disk)
      (starts (MayHoldBeside beside.on_second beside.generation doubt) (disks.past beside.disk) (stands.1 told))

  -- the disk that was the current file's, whichever is current now
  pub same_disk : {T E : Type 0} (P : D → Type 0) (result : Result T E) (left : D) (old new : Journal D disks) → OnOk result (left ≡ disk_of old) → OnErr result (new ≡ old) → P (disk_of old) → P (if is_ok result then left else disk_of new)
  same_disk P (Ok done) left old new is_left is_same here = subst P (sym is_left) here
  same_disk P (Err fault) left old new is_left is_same here = subst (λ (j : Journal D disks). P (disk_of j)) (sym is_same) here

pub err_from : {T E : Type 0} (result : Result T E) (Q R : Type 0) → (Q → R) → OnErr result Q → OnErr result R
err_from (Ok done) Q R implies is = is
err_from (Err fault) Q R implies is = implies is

-- ---- both disks

module _ {D : Type 0} (disks : Ghosts D) where
  -- the one may have failed, and the other hasn't
  pub one_went : (failed other : Type 0) (old new other_old other_new : D) → (other → ⊥) → DiskWent disks failed old new → DiskWent disks other other_old other_new → DisksWent disks failed old new other_old other_new
  one_went failed other old new other_old other_new none went also = record {
    cause = λ is. inl (went.cause is);
    never_falls = (went.never_falls, also.never_falls);
    well = λ not. (went.well not, also.well none);
    mark = (went.mark, also.mark);
  }

  pub other_went : (failed one : Type 0) (old new other_old other_new : D) → (one → ⊥) → DiskWent disks one old new → DiskWent disks failed other_old other_new → DisksWent disks failed old new other_old other_new
  other_went failed one old new other_old other_new none also went = record {
    cause = λ is. inr (went.cause is);
    never_falls = (also.never_falls, went.never_falls);
    well = λ not. (also.well none, went.well not);
    mark = (also.mark, went.mark);
  }

  -- a disk that wasn't asked
  pub not_asked : (disk : D) → DiskWent disks ⊥ disk disk
  not_asked disk = record { cause = λ none. absurd none; never_falls = omega arith; well = λ none. refl; stays_short = λ plans is. is; mark = refl }

  -- another name for what failed
  pub as_failed : (failed told : Type 0) (old new other_old other_new : D) → (failed → told) → (told → failed) → DisksWent disks failed old new other_old other_new → DisksWent disks told old new other_old other_new
  as_failed failed told old new other_old other_new is was went = record {
    cause = λ t. went.cause (was t);
    never_falls = went.never_falls;
    well = λ not. went.well (λ f. not (is f));
    mark = went.mark;
  }
