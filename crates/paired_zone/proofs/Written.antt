-- What a zone on two files stands for behind the write of its next patch.
use Rattle.std.proofs.Common.{◌≡◌, inl, inr, ℕ, ◌+◌, ◌-◌, ◌^◌, ◌<◌, ◌≤◌, Bool, List, [], ◌∷◌, ◌++◌, length, Option, Some, None, refl, sym, ◌∙◌, ap, subst, arith, length-append, append_assoc}
use Rattle.log_base.specs.Journals.{payloads_length}
use Rattle.log_base.specs.declared.limits.LogLimits.{LogLimits}
use Rattle.log_base.specs.declared.limits.TheConstants.{PAYLOAD_FRAME}
use Rattle.log_base.specs.declared.phase.Phase.{Phase}
use Rattle.log_base.specs.declared.phase.Phase.TheVariants.{Settling, Body, Gate}
use Rattle.disk_model.specs.declared.disk.Disk.{Ghosts}
use Rattle.disk_model.specs.Past.{EveryImage}
use Rattle.disk_model.proofs.Moments.{weaker}
use Rattle.log_journal.specs.File.{Holds}
use Rattle.log_journal.specs.StandsFor.{length_of, limit_of, count_of, disk_of}
use Rattle.log_journal.specs.Writing.{StandsWith, HoldsDuring, payloads_left, doubt_left, longer_by}
use Rattle.chain_core.specs.Ids.{version_among}
use Rattle.patch_meaning.specs.Checked.{CheckedPatch, checked_texts}
use Rattle.patch_meaning.specs.Patch.{IsPatch}
use Rattle.patch_log.specs.Log.{bare}
use Rattle.checkpoint_text.specs.Brief.{Brief, file_length}
use Rattle.zone_files.specs.Generation.{number_of}
use Rattle.zone_files.specs.Pair.{IsBehind}
use Rattle.zone_beside.specs.Beside.{MayHoldBeside}
use Rattle.paired_journal.specs.Pair.{IsLeft}
use Rattle.zone_pairs.specs.Briefs.{with_patch}
use Rattle.zone_pairs.specs.Pair.{PairPoint, payloads_at, start_texts, start_brief, Fits, IsWithin, MayBeBeside, MayHoldTaking}
use Rattle.zone_pairs.proofs.Together.{taken_on, texts_on, checked_on}
use Rattle.zone_state.specs.declared.answer.TakeAnswer.TheVariants.{Applied}
use Rattle.zone_state.specs.declared.kept.Kept.{Kept}
use Rattle.zone_state.specs.State.{brief_in}
use Rattle.zone_state.specs.Stay.{answer_by}
use Rattle.zone_state.specs.Taking.{taking}
use Rattle.zone_state.specs.Zone.{text_in}
use Rattle.zone_state.proofs.Decisions.{CanBeTaken, can_be_taken}
use Rattle.zone_state.proofs.Standing.{doubts_are}
use Rattle.zone_state.proofs.Written.{brief_after, brief_same}
use Rattle.paired_journal.specs.declared.files.Files.{Files}
use Rattle.paired_journal.specs.Files.{beside_of, on_second, generation_of, disk_beside, OtherStands, HasAppended}
use Rattle.paired_zone.specs.State.{view_of, IsPoint, IsNextInDoubt, IsPairKept}
use Rattle.paired_zone.specs.Takes.{point_then, TookBeside}
use Rattle.paired_zone.specs.Zone.{StandsAt}
use Rattle.paired_zone.proofs.Standing.{counted, length-push, count_is, may_hold_taking, beside_held, stands_at}

-- ---- the payloads behind a write

payloads_after : (end : Option Phase) (version : ℕ) (point : PairPoint) (patch : CheckedPatch) (left : Option CheckedPatch) → payloads_left end (payloads_at point) patch.text ≡ payloads_at (point_then (answer_by end version) point patch left)
payloads_after None version point patch left =
    append_assoc (start_texts point.generation point.start) (checked_texts point.patches) (patch.text ∷ [])
    ∙ ap (λ (ts : List (List ℕ)). start_texts point.generation point.start ++ ts) (sym (texts_on point.patches patch))
payloads_after (Some phase) version point patch left = refl

length_after : (end : Option Phase) (payloads : List (List ℕ)) (text : List ℕ) → payloads_length (payloads_left end payloads text) ≡ payloads_length payloads + longer_by end (length text)
length_after None payloads text = omega (arith, length-push payloads text)
length_after (Some phase) payloads text = omega arith

-- ---- the point behind a write

module _ (point : PairPoint) (limits : LogLimits) (brief : Brief) (is : IsPoint point limits brief) (patch : CheckedPatch) (checked : IsPatch patch.text patch.meaning) (can : CanBeTaken brief.ids brief.bytes (bare patch) limits) where
  fits : Fits brief patch
  fits = record { follows = can.follows; new = can.new }

  within_more : IsWithin limits (with_patch brief patch)
  within_more = record {
    few = omega (arith, can.places, length-append brief.ids (patch.meaning.id ∷ []));
    room = omega (arith, can.room, length-append brief.ids (patch.meaning.id ∷ []));
  }

  pub point_is_after : (end : Option Phase) (version : ℕ) → IsPoint (point_then (answer_by end version) point patch (doubt_left end point.doubt patch)) limits (brief_after end brief patch)
  point_is_after None version = record {
    start_is = is.start_is;
    in_first = is.in_first;
    checked = checked_on point.patches patch is.checked checked;
    take = taken_on (start_brief point.start) brief point.patches patch is.take fits;
    within = within_more;
    doubtful = tt;
  }
  point_is_after (Some Settling) version = record { start_is = is.start_is; in_first = is.in_first; checked = is.checked; take = is.take; within = is.within; doubtful = is.doubtful }
  point_is_after (Some Body) version = record { start_is = is.start_is; in_first = is.in_first; checked = is.checked; take = is.take; within = is.within; doubtful = tt }
  point_is_after (Some Gate) version = record { start_is = is.start_is; in_first = is.in_first; checked = is.checked; take = is.take; within = is.within; doubtful = (checked, fits, within_more) }

-- how long a journal of the patches is then
file_after : (end : Option Phase) (brief : Brief) (patch : CheckedPatch) → file_length (brief_after end brief patch).ids (brief_after end brief patch).bytes ≡ file_length brief.ids brief.bytes + longer_by end (length patch.text)
file_after None brief patch = omega (arith, length-append brief.ids (patch.meaning.id ∷ []))
file_after (Some phase) brief patch = omega arith

-- ---- before a write

module _ {D : Type 0} {disks : Ghosts D} (files : Files D disks) (kept : Kept) (limits : LogLimits) (doubtful : Option CheckedPatch) (is : IsPairKept files kept limits doubtful) where
  pub small : kept.bytes < 2 ^ 63
  small = omega (arith, is.is_point.within.room, is.small)

  module _ (patch : CheckedPatch) (version : ℕ) (next : taking kept.ids.items kept.bytes (bare patch) limits ≡ Applied version) where
    can : CanBeTaken kept.ids.items kept.bytes (bare patch) limits
    can = (can_be_taken kept.ids.items kept.bytes (bare patch) limits version next).0

    pub is_new : version_among kept.ids.items patch.meaning.id ≡ None
    is_new = can.new

    pub countable_more : length kept.ids.items + 1 < 2 ^ 32
    countable_more = omega (arith, can.places, is.countable)

    pub room : (payload : List ℕ) → payload ≡ patch.text → length_of files.current + PAYLOAD_FRAME + length payload ≤ limit_of files.current
    room payload payload_is = omega (arith, can.room, is.room, is.small, is.limit_is, ap length payload_is)

    pub numbered : count_of files.current < 2 ^ 32 - 1
    numbered = omega (arith, counted (payloads_at is.point), count_is files.current (number_of is.point.second) (payloads_at is.point) (text_in is.point.doubt) is.on_current, is.length_is, is.room, can.room, is.small)

    -- ---- behind it

    module _ (end : Option Phase) (new : Files D disks) (kept_new : Kept) (left : Option CheckedPatch) (left_is : left ≡ doubt_left end doubtful patch) (checked : IsPatch patch.text patch.meaning) (brief_is : brief_in kept_new ≡ brief_after end (brief_in kept) patch)
        (unstaged : kept_new.contents.staged ≡ None) (payload : List ℕ) (payload_is : payload ≡ patch.text) (wrote : HasAppended files.current new.current (beside_of files) (beside_of new) payload end) where
      written : HasAppended files.current new.current (beside_of files) (beside_of new) patch.text end
      written = subst (λ (t : List ℕ). HasAppended files.current new.current (beside_of files) (beside_of new) t end) payload_is wrote

      abbrev here : PairPoint
      here = point_then (answer_by end version) is.point patch (doubt_left end is.point.doubt patch)

      left_so : doubt_left end is.point.doubt patch ≡ left
      left_so = ap (λ (d : Option CheckedPatch). doubt_left end d patch) is.doubt_is ∙ sym left_is

      -- what may be in doubt in the other file
      next_left : (end : Option Phase) → brief_in kept_new ≡ brief_after end (brief_in kept) patch → HasAppended files.current new.current (beside_of files) (beside_of new) patch.text end
          → (next : Option (List ℕ)) × IsNextInDoubt is.point.generation (brief_in kept_new) next × OtherStands (disk_of new.current) (beside_of new) next
      next_left None brief w = (None, tt, w.ok refl)
      next_left (Some phase) brief w =
          let left = w.err (λ none. cc) is.next is.on_other in
          (left.0, still left.0 left.1, left.2)
        where
          still : (other : Option (List ℕ)) → IsLeft is.next other → IsNextInDoubt is.point.generation (brief_in kept_new) other
          still other (inl same) = subst (λ (b : Brief). IsNextInDoubt is.point.generation b other) (sym brief) (subst (λ (o : Option (List ℕ)). IsNextInDoubt is.point.generation (brief_in kept) o) (sym same) is.next_is)
          still other (inr none) = subst (λ (o : Option (List ℕ)). IsNextInDoubt is.point.generation (brief_in kept_new) o) (sym none) tt

      pub kept_written : IsPairKept new kept_new limits left
      kept_written =
          let other = next_left end brief_is written in
          record {
            unstaged = unstaged;
            small = is.small;
            countable = is.countable;
            point = here;
            is_point = subst (λ (b : Brief). IsPoint here limits b) (sym brief_is) (point_is_after is.point limits (brief_in kept) is.is_point patch checked can end version);
            doubt_is = left_so;
            second_is = is.second_is ∙ sym written.second;
            generation_is = is.generation_is ∙ sym written.generation;
            limit_is = written.limit_is ∙ is.limit_is;
            length_is = written.length_is ∙ omega (arith, is.length_is, length_after end (payloads_at is.point) patch.text) ∙ ap payloads_length (payloads_after end version is.point patch (doubt_left end is.point.doubt patch));
            room = omega (arith, written.length_is, is.room, file_after end (brief_in kept) patch, ap (λ (b : Brief). file_length b.ids b.bytes) brief_is);
            on_current = subst (λ (d : Option (List ℕ)). StandsWith new.current (number_of is.point.second) (payloads_at here) d) (doubts_are end is.point.doubt patch)
                (subst (λ (ps : List (List ℕ)). StandsWith new.current (number_of is.point.second) ps (doubt_left end (text_in is.point.doubt) patch.text)) (payloads_after end version is.point patch (doubt_left end is.point.doubt patch))
                (written.stands (number_of is.point.second) (payloads_at is.point) (text_in is.point.doubt) is.on_current));
            next = other.0;
            next_is = other.1;
            on_other = other.2;
          }

      -- what becomes of the disks
      pub took_written : TookBeside disks (view_of files kept limits doubtful) (view_of new kept_new limits left) patch (answer_by end version)
      unfolding kept_written
      took_written = record {
        point = is.point;
        stood = stands_at files kept limits doubtful is;
        stands = subst (λ (d : Option CheckedPatch). StandsAt disks (view_of new kept_new limits left) (point_then (answer_by end version) is.point patch d)) left_so (stands_at new kept_new limits left kept_written);
        on_current = λ told. weaker (HoldsDuring (number_of is.point.second) (payloads_at is.point) (text_in is.point.doubt) patch.text) (MayHoldTaking (number_of is.point.second) (payloads_at is.point) is.point.doubt patch)
            (λ image held. may_hold_taking (number_of is.point.second) (payloads_at is.point) is.point.doubt patch image held) (disks.past (disk_of files.current)) (disks.past (disk_of new.current))
            (written.on_current told (number_of is.point.second) (payloads_at is.point) (text_in is.point.doubt) is.on_current);
        on_other = λ told. weaker (MayHoldBeside (on_second (beside_of files)) (generation_of (beside_of files)) is.next) (MayBeBeside is.point.second is.point.generation (brief_in kept))
            (λ image held. beside_held files kept limits doubtful is image held) (disks.past (disk_beside files)) (disks.past (disk_beside new)) (written.on_other told is.next is.on_other);
        kept = λ other applied told. kept_in end applied written (stands_left end written) told;
      }
        where
          stands_left : (end : Option Phase) → HasAppended files.current new.current (beside_of files) (beside_of new) patch.text end → StandsWith new.current (number_of is.point.second) (payloads_left end (payloads_at is.point) patch.text) (doubt_left end (text_in is.point.doubt) patch.text)
          stands_left end w = w.stands (number_of is.point.second) (payloads_at is.point) (text_in is.point.doubt) is.on_current

          kept_in : (end : Option Phase) {other : ℕ} → answer_by end version ≡ Applied other → HasAppended files.current new.current (beside_of files) (beside_of new) patch.text end
              → StandsWith new.current (number_of is.point.second) (payloads_left end (payloads_at is.point) patch.text) (doubt_left end (text_in is.point.doubt) patch.text) → disks.tells
              → EveryImage (disks.past (disk_of new.current)) (λ image. Holds image (number_of is.point.second) (payloads_at is.point ++ patch.text ∷ [])) × EveryImage (disks.past (disk_beside new)) (IsBehind is.point.second is.point.generation)
          kept_in None applied w stands told = (
            (stands.1 told).each,
            λ image left.
                let behind = (w.ok refl).1 told image left in
                subst (λ (b : Bool). IsBehind b is.point.generation image) (w.second ∙ sym is.second_is) (subst (λ (g : ℕ). IsBehind (on_second (beside_of new)) g image) (w.generation ∙ sym is.generation_is) behind),
          )
          kept_in (Some phase) applied w stands told = absurd (cc)

-- ---- what is kept may know more terms

pub terms_known : {D : Type 0} {disks : Ghosts D} (files : Files D disks) (kept new : Kept) (limits : LogLimits) (doubt : Option CheckedPatch) → new.ids.items ≡ kept.ids.items → new.bytes ≡ kept.bytes → new.contents.contents ≡ kept.contents.contents
    → view_of files new limits doubt ≡ record (view_of files kept limits doubt) { terms = new.contents.terms }
terms_known files kept new limits doubt ids bytes contents =
    let brief = brief_same kept new ids bytes contents in
    λ i. record { brief = brief i; terms = new.contents.terms; doubt = doubt; limits = limits; second = on_second (beside_of files); generation = generation_of (beside_of files); current = disk_of files.current; other = disk_beside files }

pub kept_known : {D : Type 0} {disks : Ghosts D} (files : Files D disks) (kept : Kept) (limits : LogLimits) (doubt : Option CheckedPatch) → IsPairKept files kept limits doubt → (new : Kept) → new.ids.items ≡ kept.ids.items → new.bytes ≡ kept.bytes → new.contents.contents ≡ kept.contents.contents
    → new.contents.staged ≡ None → IsPairKept files new limits doubt
kept_known files kept limits doubt is new ids bytes contents unstaged =
    let brief = brief_same kept new ids bytes contents in
    record {
      unstaged = unstaged;
      small = is.small;
      countable = is.countable;
      point = is.point;
      is_point = subst (λ (b : Brief). IsPoint is.point limits b) (sym brief) is.is_point;
      doubt_is = is.doubt_is;
      second_is = is.second_is;
      generation_is = is.generation_is;
      limit_is = is.limit_is;
      length_is = is.length_is;
      room = omega (arith, is.room, ap (λ (b : Brief). file_length b.ids b.bytes) brief);
      on_current = is.on_current;
      next = is.next;
      next_is = subst (λ (b : Brief). IsNextInDoubt is.point.generation b is.next) (sym brief) is.next_is;
      on_other = is.on_other;
    }
