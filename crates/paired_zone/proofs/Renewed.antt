-- What a zone on two files stands for behind its next checkpoint, written or not.
use Rattle.std.proofs.Common.{◌≡◌, ◌⊎◌, inl, inr, ℕ, ◌+◌, ◌-◌, ◌^◌, ◌<◌, ◌≤◌, Bool, true, false, List, [], ◌∷◌, length, Option, Some, None, Result, Ok, Err, refl, sym, ◌∙◌, ap, subst, arith}
use Rattle.std.specs.Prelude.{not, is_ok, IsErrOf, if◌then◌else◌}
use Rattle.std.proofs.lemmas.List.Sums.{sum_by-cons}
use Rattle.log_base.specs.Journals.{payloads_length}
use Rattle.log_base.specs.declared.limits.LogLimits.{LogLimits}
use Rattle.log_base.specs.declared.limits.TheConstants.{EMPTY_JOURNAL, PAYLOAD_FRAME}
use Rattle.disk_model.specs.declared.disk.Disk.{Ghosts}
use Rattle.disk_model.specs.Past.{LeavesOnly}
use Rattle.disk_model.proofs.Moments.{weaker}
use Rattle.log_journal.specs.File.{Holds}
use Rattle.log_journal.specs.StandsFor.{is_settled, disk_of}
use Rattle.log_journal.specs.Writing.{StandsWith}
use Rattle.log_journal.specs.declared.journal.Journal.{Journal}
use Rattle.patch_meaning.specs.Checked.{CheckedPatch}
use Rattle.checkpoint_text.specs.Brief.{Brief}
use Rattle.checkpoint_text.specs.Text.{checkpoint, IsCheckpoint}
use Rattle.zone_files.specs.Generation.{number_of, PayloadsShow}
use Rattle.zone_files.specs.Pair.{IsBehind, MayBeOther}
use Rattle.zone_beside.specs.Beside.{MayHoldWriting, IsLeftBehind}
use Rattle.zone_beside.specs.declared.fault.WriteFault.{WriteFault}
use Rattle.zone_beside.specs.declared.fault.WriteFault.TheVariants as write
use Rattle.zone_pairs.specs.Pair.{PairPoint, payloads_at, MayBeTaken, MayBeBeside, MayHoldPayloads}
use Rattle.zone_pairs.proofs.Together.{payloads_show}
use Rattle.zone_state.specs.declared.kept.Kept.{Kept}
use Rattle.zone_state.specs.State.{brief_in}
use Rattle.zone_state.specs.Zone.{text_in}
use Rattle.paired_reading.specs.declared.limit.TheConstants.{CHECKPOINT_FILE_LIMIT}
use Rattle.paired_journal.specs.Pair.{HoldsWith, IsLeft, DisksWent}
use Rattle.paired_journal.specs.declared.files.Files.{Files}
use Rattle.paired_journal.specs.Files.{beside_of, on_second, generation_of, disk_or, disk_beside, IsBegunAnew, HasRenewed}
use Rattle.paired_zone.specs.Checkpointing.{end_by, doubt_by, disk_in, point_made, HasCheckpoint, MadeBeside}
use Rattle.paired_zone.specs.Large.{length_alone, ArePrintable}
use Rattle.paired_zone.specs.State.{view_of, IsNextInDoubt, IsPairKept}
use Rattle.paired_zone.specs.Zone.{PairedView, StandsAt}
use Rattle.paired_zone.proofs.Printing.{is_checkpoint}
use Rattle.paired_zone.proofs.Standing.{may_hold, beside_held, stands_at}
use Rattle.paired_zone.proofs.Values.{are_settings}

-- ---- the disks of the files, whichever is current

pub same_current : {D : Type 0} (zone : PairedView D) (second : Bool) → zone.second ≡ second → disk_in zone second ≡ zone.current
same_current zone true is = ap (λ (b : Bool). if b then zone.current else zone.other) is
same_current zone false is = ap (λ (b : Bool). if b then zone.other else zone.current) is

pub same_other : {D : Type 0} (zone : PairedView D) (second : Bool) → zone.second ≡ second → disk_in zone (not second) ≡ zone.other
same_other zone true is = ap (λ (b : Bool). if b then zone.other else zone.current) is
same_other zone false is = ap (λ (b : Bool). if b then zone.current else zone.other) is

not_twice : (b : Bool) → not (not b) ≡ b
not_twice true = refl
not_twice false = refl

pub now_other : {D : Type 0} (zone : PairedView D) (second : Bool) → zone.second ≡ not second → disk_in zone second ≡ zone.other
now_other zone second is = ap (λ (b : Bool). disk_in zone b) (sym (not_twice second)) ∙ same_other zone (not second) is

pub now_current : {D : Type 0} (zone : PairedView D) (second : Bool) → zone.second ≡ not second → disk_in zone (not second) ≡ zone.current
now_current zone second is = same_current zone (not second) is

-- ---- the patch in doubt

module _ {D : Type 0} {disks : Ghosts D} (journal : Journal D disks) (number : ℕ) (payloads : List (List ℕ)) where
  abbrev Stands : Option CheckedPatch → Type 0
  Stands doubt = StandsWith journal number payloads (text_in doubt)

  same_doubt : (doubt : Option CheckedPatch) → Stands doubt → Stands (doubt_by (is_settled journal) doubt)
  same_doubt None stands = subst (λ (b : Bool). Stands (doubt_by b None)) (sym stands.0) stands
  same_doubt (Some patch) stands = subst (λ (b : Bool). Stands (doubt_by b (Some patch))) (sym stands.0) stands

  -- as the journal is settled, or isn't
  doubt_known : (doubt : Option CheckedPatch) (left : Option (List ℕ)) → IsLeft (text_in doubt) left → StandsWith journal number payloads left → Stands (doubt_by (is_settled journal) doubt)
  doubt_known doubt left (inl same) stands = same_doubt doubt (subst (λ (o : Option (List ℕ)). StandsWith journal number payloads o) same stands)
  doubt_known doubt left (inr none) stands =
      let settled = subst (λ (o : Option (List ℕ)). StandsWith journal number payloads o) none stands in
      subst (λ (b : Bool). Stands (doubt_by b doubt)) (sym settled.0) settled

pub same_or_none : (settled : Bool) (doubt : Option CheckedPatch) → (doubt_by settled doubt ≡ doubt) ⊎ (doubt_by settled doubt ≡ None)
same_or_none true doubt = inr refl
same_or_none false doubt = inl refl

still_taken : (limits : LogLimits) (brief : Brief) (settled : Bool) (doubt : Option CheckedPatch) → MayBeTaken limits brief doubt → MayBeTaken limits brief (doubt_by settled doubt)
still_taken limits brief true doubt may = tt
still_taken limits brief false doubt may = may

alone-length : (payload : List ℕ) → payloads_length (payload ∷ []) ≡ EMPTY_JOURNAL + PAYLOAD_FRAME + length payload
alone-length payload = omega (arith, sum_by-cons (λ (p : List ℕ). PAYLOAD_FRAME + length p) payload [])

-- ---- the next checkpoint

module _ {D : Type 0} {disks : Ghosts D} (files : Files D disks) (kept : Kept) (limits : LogLimits) (doubt : Option CheckedPatch) (is : IsPairKept files kept limits doubt) where
  abbrev here : ℕ
  here = generation_of (beside_of files)

  abbrev next_text : List ℕ
  next_text = checkpoint (here + 1) (brief_in kept)

  module _ (more : here < 2 ^ 64 - 1) (within : length_alone (here + 1) (brief_in kept) ≤ CHECKPOINT_FILE_LIMIT) (printable : ArePrintable (here + 1) (brief_in kept)) where
    next_is_one : IsCheckpoint next_text (here + 1) (brief_in kept)
    next_is_one =
        is_checkpoint (here + 1) (brief_in kept) (omega (arith, more)) (omega (arith, is.is_point.within.few, is.countable)) (omega (arith, is.is_point.within.room, is.small)) within printable
        (are_settings is.point.generation is.point.start is.point.patches (brief_in kept) is.is_point.start_is is.is_point.checked is.is_point.take)

    -- of the point
    next_at : IsCheckpoint (checkpoint (is.point.generation + 1) (brief_in kept)) (is.point.generation + 1) (brief_in kept)
    next_at = subst (λ (g : ℕ). IsCheckpoint (checkpoint (g + 1) (brief_in kept)) (g + 1) (brief_in kept)) (sym is.generation_is) next_is_one

    text_at : next_text ≡ checkpoint (is.point.generation + 1) (brief_in kept)
    text_at = ap (λ (g : ℕ). checkpoint (g + 1) (brief_in kept)) (sym is.generation_is)

    -- ---- behind it

    module _ (new : Files D disks) (left : Option CheckedPatch) (left_is : left ≡ doubt_by (is_settled new.current) doubt) where
      abbrev Wrote : Result (Unit {0}) WriteFault → Type 0
      Wrote result = HasRenewed files.current new.current (beside_of files) (beside_of new) next_text result

      begun : (done : Unit {0}) → Wrote (Ok done) → IsBegunAnew new.current (beside_of files) (beside_of new) next_text
      begun done wrote =
          wrote.done (payloads_at is.point) (text_in is.point.doubt)
          (subst (λ (b : Bool). StandsWith files.current (number_of b) (payloads_at is.point) (text_in is.point.doubt)) is.second_is is.on_current)
          (subst (λ (b : Bool). PayloadsShow b (payloads_at is.point) (Some here)) is.second_is
          (subst (λ (g : ℕ). PayloadsShow is.point.second (payloads_at is.point) (Some g)) is.generation_is
          (payloads_show is.point.second is.point.generation is.point.start is.point.patches is.is_point.start_is is.is_point.in_first is.is_point.checked)))

      none_left : (done : Unit {0}) → Wrote (Ok done) → left ≡ None
      none_left done wrote = left_is ∙ ap (λ (b : Bool). doubt_by b doubt) (begun done wrote).stands.0

      -- the point behind it
      abbrev behind : Result (Unit {0}) WriteFault → ℕ → PairPoint
      behind result version = point_made (end_by result version) is.point (brief_in kept) left

      left_there : (result : Result (Unit {0}) WriteFault) (number : ℕ) (payloads : List (List ℕ))
          → (old : Option (List ℕ)) × IsLeft (text_in doubt) old × StandsWith new.current number payloads old → StandsWith new.current number payloads (text_in left)
      left_there result number payloads stood =
          subst (λ (d : Option CheckedPatch). StandsWith new.current number payloads (text_in d)) (sym left_is) (doubt_known new.current number payloads doubt stood.0 stood.1 stood.2)

      left_next : (next : Option (List ℕ)) → IsLeftBehind is.next next_text next → IsNextInDoubt is.point.generation (brief_in kept) next
      left_next next (inl same) = subst (λ (o : Option (List ℕ)). IsNextInDoubt is.point.generation (brief_in kept) o) (sym same) is.next_is
      left_next next (inr new_one) = subst (λ (o : Option (List ℕ)). IsNextInDoubt is.point.generation (brief_in kept) o) (sym new_one) (text_at, next_at)

      left_taken : MayBeTaken limits (brief_in kept) left
      left_taken =
          subst (λ (d : Option CheckedPatch). MayBeTaken limits (brief_in kept) d) (sym left_is)
          (still_taken limits (brief_in kept) (is_settled new.current) doubt (subst (λ (d : Option CheckedPatch). MayBeTaken limits (brief_in kept) d) is.doubt_is is.is_point.doubtful))

      -- it wasn't written
      kept_unwritten : (fault : WriteFault) → Wrote (Err fault) → IsPairKept new kept limits left
      kept_unwritten fault wrote =
          let other = wrote.behind is.next is.on_other in
          record {
            unstaged = is.unstaged;
            small = is.small;
            countable = is.countable;
            point = record is.point { doubt = left };
            is_point = record { start_is = is.is_point.start_is; in_first = is.is_point.in_first; checked = is.is_point.checked; take = is.is_point.take; within = is.is_point.within; doubtful = left_taken };
            doubt_is = refl;
            second_is = is.second_is ∙ sym wrote.second;
            generation_is = is.generation_is ∙ sym wrote.generation;
            limit_is = wrote.same_limit ∙ is.limit_is;
            length_is = wrote.same_length ∙ is.length_is;
            room = omega (arith, wrote.same_length, is.room);
            on_current = left_there (Err fault) (number_of is.point.second) (payloads_at is.point)
                (wrote.stands (number_of is.point.second) (payloads_at is.point) (text_in doubt) (subst (λ (d : Option CheckedPatch). StandsWith files.current (number_of is.point.second) (payloads_at is.point) (text_in d)) is.doubt_is is.on_current));
            next = other.0;
            next_is = left_next other.0 other.1;
            on_other = other.2;
          }

      -- it was
      kept_written : (done : Unit {0}) → Wrote (Ok done) → IsPairKept new kept limits left
      kept_written done wrote =
          let b = begun done wrote in
          let none = none_left done wrote in
          record {
            unstaged = is.unstaged;
            small = is.small;
            countable = is.countable;
            point = point_made (end_by (Ok done) 0) is.point (brief_in kept) left;
            is_point = record { start_is = next_at; in_first = λ some. absurd (cc); checked = tt; take = refl; within = is.is_point.within; doubtful = left_taken };
            doubt_is = refl;
            second_is = ap not is.second_is ∙ sym b.second;
            generation_is = ap (λ (n : ℕ). n + 1) is.generation_is ∙ sym b.generation;
            limit_is = wrote.limit_is;
            length_is = wrote.length_is ∙ sym (alone-length next_text) ∙ ap (λ (t : List ℕ). payloads_length (t ∷ [])) text_at;
            room = omega (arith, wrote.length_is, within);
            on_current = subst (λ (d : Option CheckedPatch). StandsWith new.current (number_of (not is.point.second)) (checkpoint (is.point.generation + 1) (brief_in kept) ∷ []) (text_in d)) (sym none)
                (subst (λ (t : List ℕ). StandsWith new.current (number_of (not is.point.second)) (t ∷ []) None) text_at
                (subst (λ (s : Bool). StandsWith new.current (number_of (not s)) (next_text ∷ []) None) (sym is.second_is) b.stands));
            next = None;
            next_is = tt;
            on_other = b.behind;
          }

      pub kept_renewed : (result : Result (Unit {0}) WriteFault) → Wrote result → IsPairKept new kept limits left
      kept_renewed (Ok done) wrote = kept_written done wrote
      kept_renewed (Err fault) wrote = kept_unwritten fault wrote

      stands_behind : (result : Result (Unit {0}) WriteFault) (version : ℕ) → Wrote result → StandsAt disks (view_of new kept limits left) (behind result version)
      unfolding kept_written kept_unwritten
      stands_behind (Ok done) version wrote = stands_at new kept limits left (kept_written done wrote)
      stands_behind (Err write.Failed) version wrote = stands_at new kept limits left (kept_unwritten write.Failed wrote)
      stands_behind (Err write.OutOfMemory) version wrote = stands_at new kept limits left (kept_unwritten write.OutOfMemory wrote)

      -- ---- the disks

      abbrev now : PairedView D
      now = view_of new kept limits left

      -- that of the file that was current, and the other one
      disk_was : (result : Result (Unit {0}) WriteFault) → Wrote result → (if is_ok result then disk_or (disk_of new.current) (beside_of new) else disk_of new.current) ≡ disk_in now (on_second (beside_of files))
      disk_was (Ok done) wrote = sym (now_other now (on_second (beside_of files)) (begun done wrote).second)
      disk_was (Err fault) wrote = sym (same_current now (on_second (beside_of files)) wrote.second)

      disk_beside_it : (result : Result (Unit {0}) WriteFault) → Wrote result → (if is_ok result then disk_of new.current else disk_or (disk_of new.current) (beside_of new)) ≡ disk_in now (not (on_second (beside_of files)))
      disk_beside_it (Ok done) wrote = sym (now_current now (on_second (beside_of files)) (begun done wrote).second)
      disk_beside_it (Err fault) wrote = sym (same_other now (on_second (beside_of files)) wrote.second)

      next_beside : (image : List ℕ) → MayBeOther (on_second (beside_of files)) here next_text image → MayBeBeside is.point.second is.point.generation (brief_in kept) image
      next_beside image other =
          let there : MayBeOther is.point.second here next_text image = subst (λ (s : Bool). MayBeOther s here next_text image) (sym is.second_is) other in
          by (subst (λ (g : ℕ). IsBehind is.point.second g image ⊎ Holds image (number_of (not is.point.second)) (checkpoint (g + 1) (brief_in kept) ∷ [])) (sym is.generation_is) there)
        where
          by : IsBehind is.point.second is.point.generation image ⊎ Holds image (number_of (not is.point.second)) (checkpoint (is.point.generation + 1) (brief_in kept) ∷ []) → MayBeBeside is.point.second is.point.generation (brief_in kept) image
          by (inl first) = inl first
          by (inr holds) = inr (next_at, holds)

      written_beside : (image : List ℕ) → MayHoldWriting (on_second (beside_of files)) here is.next next_text image → MayBeBeside is.point.second is.point.generation (brief_in kept) image
      written_beside image (inl held) = beside_held files kept limits doubt is image held
      written_beside image (inr other) = next_beside image other

      pub made_beside : (result : Result (Unit {0}) WriteFault) (version : ℕ) → Wrote result → MadeBeside disks (view_of files kept limits doubt) now (end_by result version)
      made_beside result version wrote = record {
        point = is.point;
        stood = stands_at files kept limits doubt is;
        stands = stands_behind result version wrote;
        on_current = λ told. subst (λ (disk : D). LeavesOnly (MayHoldPayloads (number_of is.point.second) (payloads_at is.point) is.point.doubt) (disks.past (disk_of files.current)) (disks.past disk)) (disk_was result wrote)
            (weaker (HoldsWith (number_of is.point.second) (payloads_at is.point) (text_in is.point.doubt)) (MayHoldPayloads (number_of is.point.second) (payloads_at is.point) is.point.doubt)
            (λ image held. may_hold (number_of is.point.second) (payloads_at is.point) is.point.doubt image held) _ _
            (wrote.on_current told (number_of is.point.second) (payloads_at is.point) (text_in is.point.doubt) is.on_current));
        on_other = λ told. subst (λ (disk : D). LeavesOnly (MayBeBeside is.point.second is.point.generation (brief_in kept)) (disks.past (disk_beside files)) (disks.past disk)) (disk_beside_it result wrote)
            (weaker (MayHoldWriting (on_second (beside_of files)) here is.next next_text) (MayBeBeside is.point.second is.point.generation (brief_in kept))
            (λ image held. written_beside image held) _ _ (wrote.on_other told is.next is.on_other));
      }

      pub has_checkpoint : (done : Unit {0}) → Wrote (Ok done) → HasCheckpoint disks (view_of files kept limits doubt) now
      has_checkpoint done wrote =
          let b = begun done wrote in
          record {
            second = b.second;
            generation = b.generation;
            doubt = none_left done wrote;
            alone = λ told image may.
                let holds = (b.stands.1 told).each image may in
                subst (λ (s : Bool). Holds image (number_of s) (checkpoint (generation_of (beside_of new)) (brief_in kept) ∷ [])) (sym b.second)
                (subst (λ (g : ℕ). Holds image (number_of (not (on_second (beside_of files)))) (checkpoint g (brief_in kept) ∷ [])) (sym b.generation) holds);
            behind = λ told. b.behind.1 told;
          }

      -- a failing disk is counted
      pub disks_went : (result : Result (Unit {0}) WriteFault) → Wrote result
          → DisksWent disks (IsErrOf result write.Failed) (disk_of files.current) (disk_in now (on_second (beside_of files))) (disk_beside files) (disk_in now (not (on_second (beside_of files))))
      disks_went result wrote =
          subst (λ (disk : D). DisksWent disks (IsErrOf result write.Failed) (disk_of files.current) (disk_in now (on_second (beside_of files))) (disk_beside files) disk) (disk_beside_it result wrote)
          (subst (λ (disk : D). DisksWent disks (IsErrOf result write.Failed) (disk_of files.current) disk (disk_beside files) (if is_ok result then disk_of new.current else disk_or (disk_of new.current) (beside_of new))) (disk_was result wrote) wrote.went)
