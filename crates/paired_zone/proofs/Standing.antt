-- What a zone on two files stands for.
use Rattle.std.proofs.Common.{◌≡◌, inl, inr, ℕ, ◌+◌, ◌*◌, ◌≤◌, Bool, List, [], ◌∷◌, ◌++◌, length, Option, Some, None, sym, subst, arith}
use Rattle.std.specs.Prelude.{not}
use Rattle.std.proofs.lemmas.List.Sums.{sum_by-append, sum_by-cons}
use Rattle.log_base.specs.Journals.{payloads_length}
use Rattle.log_base.specs.declared.limits.LogLimits.{LogLimits}
use Rattle.log_base.specs.declared.limits.TheConstants.{PAYLOAD_FRAME}
use Rattle.disk_model.specs.declared.disk.Disk.{Ghosts}
use Rattle.disk_model.specs.Past.{Past, EveryImage}
use Rattle.log_journal.specs.File.{Holds}
use Rattle.log_journal.specs.Journal.{HoldsAll, InDoubt}
use Rattle.log_journal.specs.StandsFor.{length_of, count_of, disk_of}
use Rattle.log_journal.specs.Writing.{StandsWith, HoldsDuring}
use Rattle.log_journal.specs.declared.journal.Journal.{Journal}
use Rattle.log_journal.proofs.Steps.{either}
use Rattle.patch_meaning.specs.Checked.{CheckedPatch}
use Rattle.checkpoint_text.specs.Brief.{Brief}
use Rattle.zone_files.specs.Generation.{number_of}
use Rattle.zone_beside.specs.Beside.{MayHoldBeside}
use Rattle.paired_journal.specs.Pair.{HoldsWith}
use Rattle.zone_pairs.specs.Pair.{payloads_at, FileHolds, MayBeBeside, MayHoldPayloads, MayHoldTaking}
use Rattle.zone_state.specs.declared.kept.Kept.{Kept}
use Rattle.zone_state.specs.State.{brief_in}
use Rattle.zone_state.specs.Zone.{text_in}
use Rattle.paired_journal.specs.declared.files.Files.{Files}
use Rattle.paired_journal.specs.Files.{beside_of, on_second, generation_of, disk_beside}
use Rattle.paired_zone.specs.State.{view_of, IsNextInDoubt, IsPairKept}
use Rattle.paired_zone.specs.Zone.{StandsAt}

-- ---- journals

-- there are no more payloads than a journal is long
pub counted : (payloads : List (List ℕ)) → PAYLOAD_FRAME * length payloads ≤ payloads_length payloads
counted [] = omega arith
counted (payload ∷ payloads) = omega (arith, counted payloads, sum_by-cons (λ (p : List ℕ). PAYLOAD_FRAME + length p) payload payloads)

pub length-push : (payloads : List (List ℕ)) (payload : List ℕ) → payloads_length (payloads ++ payload ∷ []) ≡ payloads_length payloads + PAYLOAD_FRAME + length payload
length-push payloads payload = omega (arith, sum_by-append (λ (p : List ℕ). PAYLOAD_FRAME + length p) payloads (payload ∷ []))

module _ {D : Type 0} {disks : Ghosts D} where
  pub count_is : (journal : Journal D disks) (number : ℕ) (payloads : List (List ℕ)) (doubt : Option (List ℕ)) → StandsWith journal number payloads doubt → count_of journal ≡ length payloads
  count_is journal number payloads None stands = stands.2
  count_is journal number payloads (Some doubt) stands = stands.2

  -- what its images hold
  holds_so : (journal : Journal D disks) (number : ℕ) (payloads : List (List ℕ)) (doubt : Option CheckedPatch) → length_of journal ≡ payloads_length payloads → StandsWith journal number payloads (text_in doubt) → disks.tells → FileHolds (disks.past (disk_of journal)) number payloads doubt
  holds_so journal number payloads None is stands told = subst (λ (end : ℕ). HoldsAll (disks.past (disk_of journal)) end number payloads) is (stands.1 told)
  holds_so journal number payloads (Some doubt) is stands told = subst (λ (end : ℕ). InDoubt (disks.past (disk_of journal)) end number payloads doubt.text) is (stands.1 told)

-- ---- images

pub file_images : (past : Past) (number : ℕ) (payloads : List (List ℕ)) (doubt : Option CheckedPatch) → FileHolds past number payloads doubt → EveryImage past (MayHoldPayloads number payloads doubt)
file_images past number payloads None holds = holds.each
file_images past number payloads (Some doubt) holds = λ image left. either (payloads_length payloads) number payloads doubt.text holds.doubt_sized holds.few image holds.sized (holds.each image left)

-- while a journal is settled
pub may_hold : (number : ℕ) (payloads : List (List ℕ)) (doubt : Option CheckedPatch) (image : List ℕ) → HoldsWith number payloads (text_in doubt) image → MayHoldPayloads number payloads doubt image
may_hold number payloads None image holds = holds
may_hold number payloads (Some doubt) image holds = holds

-- while it is written to
pub may_hold_taking : (number : ℕ) (payloads : List (List ℕ)) (doubt : Option CheckedPatch) (patch : CheckedPatch) (image : List ℕ) → HoldsDuring number payloads (text_in doubt) patch.text image → MayHoldTaking number payloads doubt patch image
may_hold_taking number payloads None patch image (inl holds) = inl holds
may_hold_taking number payloads None patch image (inr holds) = inr holds
may_hold_taking number payloads (Some doubt) patch image (inl either_) = inl either_
may_hold_taking number payloads (Some doubt) patch image (inr (inl holds)) = inl (inl holds)
may_hold_taking number payloads (Some doubt) patch image (inr (inr holds)) = inr holds

-- the other file
pub may_be_beside : (second : Bool) (generation : ℕ) (brief : Brief) (next : Option (List ℕ)) (image : List ℕ) → IsNextInDoubt generation brief next → MayHoldBeside second generation next image → MayBeBeside second generation brief image
may_be_beside second generation brief None image is behind = inl behind
may_be_beside second generation brief (Some next) image is (inl behind) = inl behind
may_be_beside second generation brief (Some next) image is (inr holds) = inr (is.1, subst (λ (t : List ℕ). Holds image (number_of (not second)) (t ∷ [])) is.0 holds)

module _ {D : Type 0} {disks : Ghosts D} (files : Files D disks) (kept : Kept) (limits : LogLimits) (doubt : Option CheckedPatch) (is : IsPairKept files kept limits doubt) where
  -- what an image of the other file is
  pub beside_held : (image : List ℕ) → MayHoldBeside (on_second (beside_of files)) (generation_of (beside_of files)) is.next image → MayBeBeside is.point.second is.point.generation (brief_in kept) image
  beside_held image held =
      let there = subst (λ (g : ℕ). MayHoldBeside (on_second (beside_of files)) g is.next image) (sym is.generation_is) held in
      let here = subst (λ (b : Bool). MayHoldBeside b is.point.generation is.next image) (sym is.second_is) there in
      may_be_beside is.point.second is.point.generation (brief_in kept) is.next image is.next_is here

  -- what the images of the other file are
  pub other_images : disks.tells → EveryImage (disks.past (disk_beside files)) (MayBeBeside is.point.second is.point.generation (brief_in kept))
  other_images told = λ image left. beside_held image (is.on_other.1 told image left)

  -- the disks stand for the point
  pub stands_at : StandsAt disks (view_of files kept limits doubt) is.point
  stands_at = record {
    second_is = is.second_is;
    generation_is = is.generation_is;
    doubt_is = is.doubt_is;
    stands = record {
      start_is = is.is_point.start_is;
      in_first = is.is_point.in_first;
      checked = is.is_point.checked;
      take = is.is_point.take;
      within = is.is_point.within;
      doubtful = is.is_point.doubtful;
      on_current = λ told. holds_so files.current (number_of is.point.second) (payloads_at is.point) is.point.doubt is.length_is is.on_current told;
      on_other = other_images;
    };
  }

  -- the images of the current file
  pub current_images : disks.tells → EveryImage (disks.past (disk_of files.current)) (MayHoldPayloads (number_of is.point.second) (payloads_at is.point) is.point.doubt)
  current_images told = file_images (disks.past (disk_of files.current)) (number_of is.point.second) (payloads_at is.point) is.point.doubt (holds_so files.current (number_of is.point.second) (payloads_at is.point) is.point.doubt is.length_is is.on_current told)
