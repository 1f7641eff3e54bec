-- What a crash leaves of a zone that follows a chain begins that chain.
use Rattle.std.proofs.Common.{◌≡◌, ◌⊎◌, inl, inr, ⊎_elim, ℕ, ◌+◌, Bool, false, List, [], ◌∷◌, ◌++◌, Option, Some, None, refl, sym, ◌∙◌, ap, subst}
use Rattle.std.proofs.lemmas.List.{append-nil}
use mathlib.Core.List.{IsPrefix}
use Rattle.disk_model.specs.declared.disk.Disk.{Ghosts}
use Rattle.disk_model.specs.Past.{LeavesOnly, MayHaveLeft}
use Rattle.disk_model.proofs.Moments.{weaker}
use Rattle.log_journal.specs.File.{Holds}
use Rattle.patch_meaning.specs.Checked.{AreChecked, CheckedPatch, checked_texts}
use Rattle.patch_meaning.specs.Patch.{IsPatch}
use Rattle.patch_log.specs.Log.{bare}
use Rattle.log_base.specs.declared.limits.LogLimits.{LogLimits}
use Rattle.checkpoint_text.specs.Text.{checkpoint}
use Rattle.zone_files.specs.Generation.{number_of}
use Rattle.zone_files.proofs.Together.{current_decides, next_decides}
use Rattle.zone_pairs.specs.Pair.{PairPoint, payloads_at, current_payloads, start_brief, Fits, TakeTo, IsStart, StandFor, MayBeBeside, MayBeTaken, ZoneHoldsByRole}
use Rattle.zone_pairs.proofs.Together.{checkpoint_begins, payloads_show}
use Rattle.zone_state.specs.Brief.{Brief, brief_of, with_patch}
use Rattle.zone_state.specs.Zone.{ZoneView, zone_number}
use Rattle.zone_state.proofs.Decisions.{can_be_taken}
use Rattle.delta_client.specs.Exchanges.{WasSaid}
use Rattle.paired_zone.specs.Zone.{StandsAt}
use Rattle.follower.specs.declared.ends.SyncEnd.{SyncEnd}
use Rattle.follower.specs.Chains.{IsToldTexts}
use Rattle.follower.specs.Footing.{Footing, one_file, two_files, DisksOf, PairDisks, Tells, of_pair, with_patches, HoldsAmid, IsBesideAmid, HoldsFront, PairHoldsFront, LeavesFronts}
use Rattle.follower.specs.Grown.{WasTried, untried, was_next}
use Rattle.follower.proofs.Footings.{texts_both, with_both, further_payloads}
use Rattle.follower.proofs.Fronts.{front_begins, doubt_begins, kept_more, checked_both, checked_front}
use Rattle.follower.proofs.TwoFiles.{take_both, take_behind}

-- ---- patches that a zone takes

take_front : (before after : Brief) (front behind : List CheckedPatch) → TakeTo before (front ++ behind) after → TakeTo before front (with_patches before front)
take_front before after [] behind all = refl
take_front before after (patch ∷ front) behind all = (all.0, take_front (with_patch before patch) after front behind all.1)

-- one is the next, and is checked
pub record IsNextOne (brief : Brief) (one : CheckedPatch) : Type 0 where
  pub is : IsPatch one.text one.meaning
  pub fits : Fits brief one

-- ---- two images

module _ (point : PairPoint) (brief : Brief) (start_is : IsStart point.generation point.start) (in_first : point.start ≡ None → point.second ≡ false) (checked : AreChecked point.patches) (take : TakeTo (start_brief point.start) point.patches brief) (current other : List ℕ) where
  -- with these patches behind the point
  module _ (behind : List CheckedPatch) (are : AreChecked behind) (fit : TakeTo brief behind (with_patches brief behind)) (holds : Holds current (number_of point.second) (payloads_at point ++ checked_texts behind)) where
    abbrev payloads : List (List ℕ)
    payloads = current_payloads point.generation point.start (point.patches ++ behind)

    all_checked : AreChecked (point.patches ++ behind)
    all_checked = checked_both point.patches behind checked are

    held : Holds current (number_of point.second) payloads
    held = subst (λ (ts : List (List ℕ)). Holds current (number_of point.second) ts) (sym (further_payloads point behind)) holds

    stands_for : StandFor point.generation payloads (with_patches brief behind)
    stands_for = record {
      start = point.start;
      patches = point.patches ++ behind;
      payloads_are = refl;
      start_is = start_is;
      checked = all_checked;
      take = take_both (start_brief point.start) brief (with_patches brief behind) point.patches behind take fit;
    }

    -- the other file may hold the checkpoint of another brief
    decided_by : (next : Brief) → MayBeBeside point.second point.generation next other → ZoneHoldsByRole point.second current other (with_patches brief behind) ⊎ ZoneHoldsByRole point.second current other next
    decided_by next (inl behind_it) =
        inl (current_decides StandFor point.second point.generation payloads (with_patches brief behind) current other held
        (payloads_show point.second point.generation point.start (point.patches ++ behind) start_is in_first all_checked) stands_for behind_it)
    decided_by next (inr alone) =
        inr (next_decides StandFor point.second point.generation payloads (checkpoint (point.generation + 1) next) next current other held
        (payloads_show point.second point.generation point.start (point.patches ++ behind) start_is in_first all_checked) alone.1
        (inr (point.generation + 1, checkpoint_begins (point.generation + 1) next alone.0, refl))
        (record { start = Some next; patches = []; payloads_are = refl; start_is = alone.0; checked = tt; take = refl }))

-- ---- a zone

tried_taken : {D : Type 0} (new : ZoneView D) (before : Brief) (more : List CheckedPatch) (said : List WasSaid) (tried : List CheckedPatch) → new.brief ≡ with_patches before more → AreChecked more → TakeTo before more new.brief → WasTried new more said tried
    → AreChecked (more ++ tried) × TakeTo before (more ++ tried) (with_patches before (more ++ tried))
tried_taken new before more said tried brief are take (untried none) =
    let same : more ≡ more ++ tried = sym (append-nil more) ∙ ap (λ (ps : List CheckedPatch). more ++ ps) (sym none) in
    (subst AreChecked same are, subst (λ (ps : List CheckedPatch). TakeTo before ps (with_patches before ps)) same (subst (λ (b : Brief). TakeTo before more b) brief take))
tried_taken new before more said tried brief are take (was_next next is fetched can) =
    let so = (can_be_taken new.brief.ids new.brief.bytes (bare next) new.limits can.0 can.1).0 in
    let one : TakeTo new.brief (next ∷ []) (with_patch new.brief next) = (record { follows = so.follows; new = so.new }, refl) in
    let both = take_both before new.brief (with_patch new.brief next) more (next ∷ []) take one in
    let listed : more ++ next ∷ [] ≡ more ++ tried = ap (λ (ps : List CheckedPatch). more ++ ps) (sym is) in
    let after : with_patch new.brief next ≡ with_patches before (more ++ next ∷ []) = ap (λ (b : Brief). with_patch b next) brief ∙ sym (with_both more (next ∷ []) before) in (
      subst AreChecked listed (checked_both more (next ∷ []) are (fetched.1, tt)),
      subst (λ (ps : List CheckedPatch). TakeTo before ps (with_patches before ps)) listed (subst (λ (b : Brief). TakeTo before (more ++ next ∷ []) b) after both),
    )

module _ {D : Type 0} (disks : Ghosts D) (chain taken more : List CheckedPatch) (name : List ℕ) (said : List WasSaid) (end : SyncEnd) where
  -- on one file
  one_fronts : (old new : ZoneView D) → IsToldTexts (one_file disks) chain old new taken more name said end → disks.tells → LeavesOnly (HoldsFront chain) (disks.past old.disk) (disks.past new.disk)
  one_fronts old new w told =
      weaker (HoldsAmid zone_number (checked_texts taken) old.doubt (more ++ w.grew.tried)) (HoldsFront chain) holds_front (disks.past old.disk) (disks.past new.disk) (w.grew.amid taken w.stands told)
    where
      with_texts : (image : List ℕ) (behind : List CheckedPatch) → Holds image zone_number (checked_texts taken ++ checked_texts behind) → Holds image zone_number (checked_texts (taken ++ behind))
      with_texts image behind holds = subst (λ (ts : List (List ℕ)). Holds image zone_number ts) (sym (texts_both taken behind)) holds

      holds_front : (image : List ℕ) → HoldsAmid zone_number (checked_texts taken) old.doubt (more ++ w.grew.tried) image → HoldsFront chain image
      holds_front image (inl it) = (taken ++ it.0, front_begins (one_file disks) old new chain taken more name said end w it.0 it.1 it.2, with_texts image it.0 it.3)
      holds_front image (inr it) = (taken ++ it.0 ∷ [], doubt_begins (one_file disks) old new chain taken more name said end w it.0 it.1, with_texts image (it.0 ∷ []) it.2)

  -- on two
  module _ (old new : ZoneView (PairDisks D)) (w : IsToldTexts (two_files disks) chain old new taken more name said end) where
    abbrev point : PairPoint
    point = w.stands.0.0

    at : StandsAt disks (of_pair old) point
    at = w.stands.0.1

    -- the patches taken and the one tried, one behind another
    all_taken : AreChecked (more ++ w.grew.tried) × TakeTo old.brief (more ++ w.grew.tried) (with_patches old.brief (more ++ w.grew.tried))
    all_taken =
        let after = w.grew.took point at in
        tried_taken new old.brief more said w.grew.tried w.grew.brief w.grew.checked (take_behind (start_brief point.start) old.brief new.brief point.patches more at.stands.take after.stands.take) w.grew.was_tried

    -- a brief of a front of the chain
    brief_front : (front : List CheckedPatch) → with_patches old.brief front ≡ brief_of (taken ++ front)
    brief_front front = kept_more old.brief (with_patches old.brief front) taken front w.stands.1 refl

    doubt_next : (limits : LogLimits) (doubt : Option CheckedPatch) (one : CheckedPatch) → MayBeTaken limits old.brief doubt → doubt ≡ Some one → IsNextOne old.brief one
    doubt_next limits None one may is = absurd (cc)
    doubt_next limits (Some doubt) one may is = let same : doubt ≡ one = cc in subst (IsNextOne old.brief) same (record { is = may.0; fits = may.1 })

    -- images that hold this front, beside a file that may hold the checkpoint of that one
    fronts_held : (current other : List ℕ) (front : List CheckedPatch) → IsPrefix (taken ++ front) chain → AreChecked front → TakeTo old.brief front (with_patches old.brief front) → Holds current (number_of point.second) (payloads_at point ++ checked_texts front)
        → IsBesideAmid point.second point.generation old.brief (more ++ w.grew.tried) other → PairHoldsFront point.second chain current other
    fronts_held current other front begins are fit holds beside =
        ⊎_elim (λ (held : ZoneHoldsByRole point.second current other (with_patches old.brief front)). (taken ++ front, begins, subst (λ (b : Brief). ZoneHoldsByRole point.second current other b) (brief_front front) held))
        (λ (held : ZoneHoldsByRole point.second current other (with_patches old.brief beside.0)).
        (taken ++ beside.0, front_begins (two_files disks) old new chain taken more name said end w beside.0 beside.1 beside.2, subst (λ (b : Brief). ZoneHoldsByRole point.second current other b) (brief_front beside.0) held))
        (decided_by point old.brief at.stands.start_is at.stands.in_first at.stands.checked at.stands.take current other front are fit holds (with_patches old.brief beside.0) beside.3)

    held_amid : (current other : List ℕ) → HoldsAmid (number_of point.second) (payloads_at point) old.doubt (more ++ w.grew.tried) current → IsBesideAmid point.second point.generation old.brief (more ++ w.grew.tried) other → PairHoldsFront point.second chain current other
    held_amid current other (inl it) beside =
        let all = all_taken in
        fronts_held current other it.0 (front_begins (two_files disks) old new chain taken more name said end w it.0 it.1 it.2) (checked_front it.0 it.1 (subst AreChecked it.2 all.0))
        (take_front old.brief (with_patches old.brief (more ++ w.grew.tried)) it.0 it.1 (subst (λ (ps : List CheckedPatch). TakeTo old.brief ps (with_patches old.brief (more ++ w.grew.tried))) it.2 all.1)) it.3 beside
    held_amid current other (inr it) beside =
        let next = doubt_next old.limits point.doubt it.0 at.stands.doubtful (at.doubt_is ∙ it.1) in
        fronts_held current other (it.0 ∷ []) (doubt_begins (two_files disks) old new chain taken more name said end w it.0 it.1) (next.is, tt) (next.fits, refl) it.2 beside

    two_fronts : disks.tells → (current other : List ℕ) → MayHaveLeft (disks.past old.disk.current) (disks.past new.disk.current) current → MayHaveLeft (disks.past old.disk.other) (disks.past new.disk.other) other
        → PairHoldsFront old.disk.second chain current other
    two_fronts told current other left beside =
        let amid = w.grew.amid point at told in
        subst (λ (b : Bool). PairHoldsFront b chain current other) at.second_is (held_amid current other (amid.0.each current left) (amid.1.each other beside))

-- a crash at any moment leaves a front of the chain
pub leaves_fronts : (on : Footing) (old new : ZoneView (DisksOf on)) (chain taken more : List CheckedPatch) (name : List ℕ) (said : List WasSaid) (end : SyncEnd) → IsToldTexts on chain old new taken more name said end → Tells on → LeavesFronts on chain old.disk new.disk
leaves_fronts (one_file disks) old new chain taken more name said end w told = one_fronts disks chain taken more name said end old new w told
leaves_fronts (two_files disks) old new chain taken more name said end w told = two_fronts disks chain taken more name said end old new w told
