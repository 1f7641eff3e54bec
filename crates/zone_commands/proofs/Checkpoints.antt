-- From what a checkpoint comes to on a zone's disks to what it comes to for its files.
use Rattle.std.proofs.Common.{◌≡◌, inl, inr, ⊎_elim, ℕ, ◌+◌, Bool, true, false, List, [], ◌∷◌, Option, None, Result, Ok, Err, IfOk, refl, sym, ap, subst, ◌∙◌, arith}
use Rattle.std.specs.Prelude.{not, if◌then◌else◌}
use Rattle.delta_base.specs.Outside.{Rose}
use Rattle.log_base.specs.declared.limits.TheConstants.{LOG_LIMITS}
use Rattle.disk_model.specs.declared.disk.Disk.{Ghosts}
use Rattle.disk_model.specs.Past.{MayLeave, reads}
use Rattle.disk_model.proofs.Moments.{leaves}
use Rattle.log_journal.specs.File.{Holds}
use Rattle.log_journal.specs.Written.{Reopened}
use Rattle.patch_meaning.specs.Checked.{CheckedPatch}
use Rattle.checkpoint_text.specs.Text.{checkpoint}
use Rattle.zone_files.specs.Generation.{number_of}
use Rattle.zone_files.specs.Pair.{IsBehind}
use Rattle.zone_beside.specs.Finding.{IsCurrent}
use Rattle.zone_pairs.specs.Pair.{MayHoldPayloads, ZoneHolds, payloads_at}
use Rattle.paired_journal.specs.Pair.{DisksWent}
use Rattle.paired_zone.specs.Checkpointing.{MakesCheckpoint, disk_in}
use Rattle.paired_zone.specs.Opening.{IsOpened}
use Rattle.paired_zone.specs.Zone.{PairedView, first_in, second_in}
use Rattle.paired_zone.specs.declared.answer.CheckEnd.{CheckEnd}
use Rattle.paired_zone.specs.declared.answer.CheckEnd.TheVariants.{Done}
use Rattle.paired_zone.specs.declared.fault.PairFault.{PairFault}
use Rattle.paired_zone.proofs.Standing.{file_images}
use Rattle.zone_commands.specs.Checkpoints.{Checkpointed, HasNoRoom, HoldCheckpoint}
use Rattle.zone_commands.specs.Files.{AreZoneFiles}
use Rattle.zone_commands.proofs.Held.{settled_files}
use Rattle.zone_commands.proofs.Opened.{both_reopened, opened_within}

module _ {D : Type 0} (disks : Ghosts D) where
  abbrev what : D → List ℕ
  what disk = reads (disks.past disk)

  -- ---- roles

  -- of a file that is current now, and of the one that was
  new_current : (b : Bool) (new : PairedView D) → new.second ≡ not b → (if b then what (first_in new) else what (second_in new)) ≡ what new.current
  new_current true new is = ap (λ (s : Bool). what (if s then new.other else new.current)) is
  new_current false new is = ap (λ (s : Bool). what (if s then new.current else new.other)) is

  old_current : (b : Bool) (new : PairedView D) → new.second ≡ not b → (if b then what (second_in new) else what (first_in new)) ≡ what new.other
  old_current true new is = ap (λ (s : Bool). what (if s then new.current else new.other)) is
  old_current false new is = ap (λ (s : Bool). what (if s then new.other else new.current)) is

  by_name : (b : Bool) (new : PairedView D) → (if b then what (second_in new) else what (first_in new)) ≡ what (disk_in new b)
  by_name true new = refl
  by_name false new = refl

  read_in : (b : Bool) (first second : D) → (if b then what second else what first) ≡ what (if b then second else first)
  read_in true first second = refl
  read_in false first second = refl

  current_in : (b : Bool) (new : PairedView D) → new.second ≡ b → disk_in new b ≡ new.current
  current_in true new is = ap (λ (s : Bool). if s then new.current else new.other) is
  current_in false new is = ap (λ (s : Bool). if s then new.other else new.current) is

  other_in : (b : Bool) (new : PairedView D) → new.second ≡ b → disk_in new (not b) ≡ new.other
  other_in true new is = ap (λ (s : Bool). if s then new.other else new.current) is
  other_in false new is = ap (λ (s : Bool). if s then new.current else new.other) is

  -- where the same file is current
  pub went_still : (old new : PairedView D) (failed : Type 0) → new.second ≡ old.second → DisksWent disks failed old.current new.current old.other new.other
      → DisksWent disks failed old.current (disk_in new old.second) old.other (disk_in new (not old.second))
  went_still old new failed same went =
      subst (λ d. DisksWent disks failed old.current d old.other (disk_in new (not old.second))) (sym (current_in old.second new same))
      (subst (λ d. DisksWent disks failed old.current new.current old.other d) (sym (other_in old.second new same)) went)

  -- ---- what became of the files

  module _ (first second : D) (old new : PairedView D) (opened : IsOpened disks (if old.second then second else first) (if old.second then first else second) old) (limits : old.limits ≡ LOG_LIMITS) where
    none_left : (end : CheckEnd) → MakesCheckpoint disks old new end → new.doubt ≡ None
    none_left end makes = ⊎_elim (λ same. same ∙ opened.settled) (λ none. none) makes.doubt

    module _ (tell : disks.tells) (left : (d : D) → MayLeave (disks.past d) (reads (disks.past d))) (end : CheckEnd) (makes : MakesCheckpoint disks old new end) where
      -- the payloads of the file that was current
      held_before : Holds (if old.second then what second else what first) (number_of old.second) (payloads_at makes.beside.point)
      held_before =
          let stood = makes.beside.stood in
          let images = file_images (disks.past old.current) (number_of makes.beside.point.second) (payloads_at makes.beside.point) makes.beside.point.doubt (stood.stands.on_current tell) (what old.current) (left old.current) in
          let plain = subst (λ (doubt : Option CheckedPatch). MayHoldPayloads (number_of makes.beside.point.second) (payloads_at makes.beside.point) doubt (what old.current)) (stood.doubt_is ∙ opened.settled) images in
          let here = subst (λ (b : Bool). Holds (what old.current) (number_of b) (payloads_at makes.beside.point)) stood.second_is plain in
          subst (λ (file : List ℕ). Holds file (number_of old.second) (payloads_at makes.beside.point)) ((opened.reopened.kept tell).reads_same ∙ sym (read_in old.second first second)) here

      -- which stand there still
      hold_still : Holds (if old.second then what (second_in new) else what (first_in new)) (number_of old.second) (payloads_at makes.beside.point)
      hold_still =
          let stood = makes.beside.stood in
          let point = makes.beside.point in
          let after = disk_in new old.second in
          let images = leaves (MayHoldPayloads (number_of point.second) (payloads_at point) point.doubt) (disks.past old.current) (disks.past after) (makes.beside.on_current tell) (what after) (left after) in
          let plain = subst (λ (doubt : Option CheckedPatch). MayHoldPayloads (number_of point.second) (payloads_at point) doubt (what after)) (stood.doubt_is ∙ opened.settled) images in
          let here = subst (λ (b : Bool). Holds (what after) (number_of b) (payloads_at point)) stood.second_is plain in
          subst (λ (file : List ℕ). Holds file (number_of old.second) (payloads_at point)) (sym (by_name old.second new)) here

      hold_made : IsCurrent (what first) (what second) old.second old.generation → (version : ℕ) → end ≡ Done version → HoldCheckpoint (what first) (what second) (what (first_in new)) (what (second_in new)) old.brief
      hold_made current version is =
          let done = makes.done version is in
          let alone = done.alone tell (what new.current) (left new.current) in
          let in_file = subst (λ (b : Bool). Holds (what new.current) (number_of b) (checkpoint new.generation old.brief ∷ [])) done.second alone in
          let in_generation = subst (λ (g : ℕ). Holds (what new.current) (number_of (not old.second)) (checkpoint g old.brief ∷ [])) done.generation in_file in
          let behind = done.behind tell (what new.other) (left new.other) in
          let behind_file = subst (λ (b : Bool). IsBehind b new.generation (what new.other)) done.second behind in
          let behind_it = subst (λ (g : ℕ). IsBehind (not old.second) g (what new.other)) done.generation behind_file in
          record {
            on_second = old.second;
            generation = old.generation;
            was_current = current;
            alone = subst (λ (file : List ℕ). Holds file (number_of (not old.second)) (checkpoint (old.generation + 1) old.brief ∷ [])) (sym (new_current old.second new done.second)) in_generation;
            behind = subst (IsBehind (not old.second) (old.generation + 1)) (sym (old_current old.second new done.second)) behind_it;
            payloads = payloads_at makes.beside.point;
            held = held_before;
            holds = hold_still;
          }

      same_files : new ≡ old → (what (first_in new) ≡ what first) × (what (second_in new) ≡ what second)
      same_files same =
          let both = both_reopened disks first second old opened in (
            ap (λ (zone : PairedView D). what (first_in zone)) same ∙ (both.0.1.kept tell).reads_same,
            ap (λ (zone : PairedView D). what (second_in zone)) same ∙ (both.1.1.kept tell).reads_same,
          )

    pub checkpointed : (disks.tells → IsCurrent (what first) (what second) old.second old.generation) → (disks.tells → ZoneHolds (what first) (what second) old.brief)
        → (end : CheckEnd) → MakesCheckpoint disks old new end → ((d : D) → disks.tells → MayLeave (disks.past d) (reads (disks.past d)))
        → (first' second' : D) → first' ≡ first_in new → second' ≡ second_in new → Checkpointed disks.tells (what first) (what second) (what first') (what second') end
    checkpointed current held end makes left first' second' is_first is_second =
        subst (λ d. Checkpointed disks.tells (what first) (what second) (what d) (what second') end) (sym is_first)
        (subst (λ d. Checkpointed disks.tells (what first) (what second) (what (first_in new)) (what d) end) (sym is_second) (record {
          brief = old.brief;
          was = λ tell. record { hold = held tell; within = opened_within disks first second old opened limits };
          is = λ tell. subst (AreZoneFiles (what (first_in new)) (what (second_in new))) makes.brief (settled_files disks new _ makes.beside.stands (makes.limits ∙ limits) tell (λ d. left d tell) (none_left end makes));
          version = makes.version;
          made = λ version is tell. hold_made tell (λ d. left d tell) end makes (current tell) version is;
          too_large = λ shown limit is tell. record { on_second = old.second; generation = old.generation; is_current = current tell; too_large = makes.too_large shown limit is };
          untouched = λ shown limit is tell. same_files tell (λ d. left d tell) end makes (makes.untouched shown limit is);
        }))

    -- ---- what became of the disks

    went_by_role : (b : Bool) (failed : Type 0) (n : ℕ) → Reopened disks (if b then second else first) old.current n → Reopened disks (if b then first else second) old.other 81
        → DisksWent disks failed old.current (disk_in new b) old.other (disk_in new (not b)) → DisksWent disks failed first (first_in new) second (second_in new)
    went_by_role true failed n one two went = record {
      cause = λ is. ⊎_elim (λ rose. inr (subst (λ (f : ℕ). Rose f (disks.faults (second_in new))) one.faults rose)) (λ rose. inl (subst (λ (f : ℕ). Rose f (disks.faults (first_in new))) two.faults rose)) (went.cause is);
      never_falls = (omega (arith, two.faults, went.never_falls.1), omega (arith, one.faults, went.never_falls.0));
      well = λ not_failed. ((went.well not_failed).1 ∙ two.faults, (went.well not_failed).0 ∙ one.faults);
      mark = (went.mark.1 ∙ two.mark, went.mark.0 ∙ one.mark);
    }
    went_by_role false failed n one two went = record {
      cause = λ is. ⊎_elim (λ rose. inl (subst (λ (f : ℕ). Rose f (disks.faults (first_in new))) one.faults rose)) (λ rose. inr (subst (λ (f : ℕ). Rose f (disks.faults (second_in new))) two.faults rose)) (went.cause is);
      never_falls = (omega (arith, one.faults, went.never_falls.0), omega (arith, two.faults, went.never_falls.1));
      well = λ not_failed. ((went.well not_failed).0 ∙ one.faults, (went.well not_failed).1 ∙ two.faults);
      mark = (went.mark.0 ∙ one.mark, went.mark.1 ∙ two.mark);
    }

    -- behind opening and a call
    pub both_went : (failed : Type 0) → DisksWent disks failed old.current (disk_in new old.second) old.other (disk_in new (not old.second))
        → (first' second' : D) → first' ≡ first_in new → second' ≡ second_in new → DisksWent disks failed first first' second second'
    both_went failed went first' second' is_first is_second =
        subst (λ d. DisksWent disks failed first d second second') (sym is_first)
        (subst (λ d. DisksWent disks failed first (first_in new) second d) (sym is_second) (went_by_role old.second failed _ opened.reopened opened.other_reopened went))

-- files of a shelf are what their disks read
module _ (tells shelf_tells : Type 0) (tell : shelf_tells → tells) (first second first' second' a b a' b' : List ℕ) (was_first : shelf_tells → first ≡ a) (was_second : shelf_tells → second ≡ b) (is_first : shelf_tells → first' ≡ a') (is_second : shelf_tells → second' ≡ b') where
  before : (P : List ℕ → List ℕ → Type 0) → shelf_tells → P first second → P a b
  before P told is = subst (λ (f : List ℕ). P f b) (was_first told) (subst (λ (f : List ℕ). P first f) (was_second told) is)

  behind : (P : List ℕ → List ℕ → Type 0) → shelf_tells → P first' second' → P a' b'
  behind P told is = subst (λ (f : List ℕ). P f b') (is_first told) (subst (λ (f : List ℕ). P first' f) (is_second told) is)

  pub of_shelf : (result : Result CheckEnd PairFault) → IfOk result (Checkpointed tells first second first' second') → IfOk result (Checkpointed shelf_tells a b a' b')
  of_shelf (Ok end) came = record {
    brief = came.brief;
    was = λ told. before (λ f s. AreZoneFiles f s came.brief) told (came.was (tell told));
    is = λ told. behind (λ f s. AreZoneFiles f s came.brief) told (came.is (tell told));
    version = came.version;
    made = λ version is told. before (λ f s. HoldCheckpoint f s a' b' came.brief) told (behind (λ f s. HoldCheckpoint first second f s came.brief) told (came.made version is (tell told)));
    too_large = λ shown limit is told. before (λ f s. HasNoRoom f s came.brief shown limit) told (came.too_large shown limit is (tell told));
    untouched = λ shown limit is told. before (λ f s. (a' ≡ f) × (b' ≡ s)) told (behind (λ f s. (f ≡ first) × (s ≡ second)) told (came.untouched shown limit is (tell told)));
  }
  of_shelf (Err fault) came = tt
