-- What zones have in common, on one file and on two.
use Rattle.std.proofs.Common.{◌≡◌, inl, inr, ⊎_elim, ℕ, Bool, List, [], ◌∷◌, ◌++◌, Option, Some, None, refl, sym, ◌∙◌, ap, subst, append_assoc, arith}
use Rattle.std.proofs.lemmas.List.{append-nil, map-append}
use Rattle.delta_base.specs.Outside.{Rose}
use Rattle.disk_model.specs.declared.disk.Disk.{Ghosts}
use Rattle.disk_model.specs.Past.{LeavesOnly}
use Rattle.disk_model.proofs.Moments.{starts, then_other}
use Rattle.log_journal.specs.File.{Holds}
use Rattle.log_journal.proofs.Steps.{either}
use Rattle.patch_meaning.specs.Checked.{CheckedPatch, checked_texts}
use Rattle.zone_files.specs.Generation.{number_of}
use Rattle.zone_pairs.specs.Pair.{PairPoint, payloads_at, start_texts, MayBeBeside, MayHoldPayloads}
use Rattle.zone_state.specs.Brief.{Brief, file_length, with_patch}
use Rattle.zone_state.specs.Zone.{ZoneView, StandsForZone, zone_number}
use Rattle.paired_zone.proofs.Standing.{file_images}
use Rattle.paired_zone.proofs.Taking.{none_went}
use Rattle.follower.specs.Footing.{Footing, one_file, two_files, DisksOf, Point, ZoneStands, further, with_patches, HoldsAmid, IsBesideAmid, LeavesBehind, ZoneWent}

-- ---- what they stand for

pub texts_both : (first second : List CheckedPatch) → checked_texts (first ++ second) ≡ checked_texts first ++ checked_texts second
texts_both first second = map-append (λ (patch : CheckedPatch). patch.text) first second

pub with_both : (first second : List CheckedPatch) (brief : Brief) → with_patches brief (first ++ second) ≡ with_patches (with_patches brief first) second
with_both [] second brief = refl
with_both (patch ∷ first) second brief = with_both first second (with_patch brief patch)

pub further_none : (on : Footing) (zone : ZoneView (DisksOf on)) (point : Point on) → ZoneStands on zone point → further on point [] zone.doubt ≡ point
further_none (one_file disks) zone taken stands = append-nil taken
further_none (two_files disks) zone point stands =
    λ i. record { second = point.second; generation = point.generation; start = point.start; patches = append-nil point.patches i; doubt = sym stands.doubt_is i }

pub further_both : (on : Footing) (point : Point on) (first second : List CheckedPatch) (mid new : Option CheckedPatch) → further on (further on point first mid) second new ≡ further on point (first ++ second) new
further_both (one_file disks) taken first second mid new = append_assoc taken first second
further_both (two_files disks) point first second mid new =
    λ i. record { second = point.second; generation = point.generation; start = point.start; patches = append_assoc point.patches first second i; doubt = new }

-- the payloads of a point, and with patches behind it
pub further_payloads : (point : PairPoint) (more : List CheckedPatch) → start_texts point.generation point.start ++ checked_texts (point.patches ++ more) ≡ payloads_at point ++ checked_texts more
further_payloads point more =
    ap (λ (ts : List (List ℕ)). start_texts point.generation point.start ++ ts) (texts_both point.patches more)
    ∙ sym (append_assoc (start_texts point.generation point.start) (checked_texts point.patches) (checked_texts more))

-- ---- images

module _ (number : ℕ) (payloads : List (List ℕ)) (image : List ℕ) where
  abbrev HoldsTexts : List (List ℕ) → Type 0
  HoldsTexts texts = Holds image number texts

  -- these, and none of the patches
  pub amid_before : (doubt : Option CheckedPatch) (more : List CheckedPatch) → Holds image number payloads → HoldsAmid number payloads doubt more image
  amid_before doubt more holds = inl ([], more, refl, subst HoldsTexts (sym (append-nil payloads)) holds)

  -- these, or these and the one in doubt
  pub amid_doubt : (doubt : Option CheckedPatch) (more : List CheckedPatch) → MayHoldPayloads number payloads doubt image → HoldsAmid number payloads doubt more image
  amid_doubt None more holds = amid_before None more holds
  amid_doubt (Some one) more (inl holds) = amid_before (Some one) more holds
  amid_doubt (Some one) more (inr holds) = inr (one, refl, holds)

  -- these, and the one patch that is taken
  pub amid_next : (doubt : Option CheckedPatch) (next : CheckedPatch) → Holds image number (payloads ++ next.text ∷ []) → HoldsAmid number payloads doubt (next ∷ []) image
  amid_next doubt next holds = inl (next ∷ [], [], refl, holds)

  -- more may be taken
  amid_more : (doubt : Option CheckedPatch) (more tried : List CheckedPatch) → HoldsAmid number payloads doubt more image → HoldsAmid number payloads doubt (more ++ tried) image
  amid_more doubt more tried (inl is) = inl (is.0, is.1 ++ tried, ap (λ (ps : List CheckedPatch). ps ++ tried) is.2 ∙ append_assoc is.0 is.1 tried, is.3)
  amid_more doubt more tried (inr is) = inr is

  no_one : (left : Option CheckedPatch) (one : CheckedPatch) → left ≡ None → left ≡ Some one → ⊥
  no_one left one none is = let same : None ≡ Some one = sym none ∙ is in cc

  -- these were taken before, and nothing was left in doubt
  amid_behind : (doubt left : Option CheckedPatch) (more tried : List CheckedPatch) → left ≡ None → HoldsAmid number (payloads ++ checked_texts more) left tried image → HoldsAmid number payloads doubt (more ++ tried) image
  amid_behind doubt left more tried none (inl is) =
      inl (
        more ++ is.0,
        is.1,
        ap (λ (ps : List CheckedPatch). more ++ ps) is.2 ∙ sym (append_assoc more is.0 is.1),
        subst HoldsTexts (append_assoc payloads (checked_texts more) (checked_texts is.0) ∙ ap (λ (ts : List (List ℕ)). payloads ++ ts) (sym (texts_both more is.0))) is.3,
      )
  amid_behind doubt left more tried none (inr is) = absurd (no_one left is.0 none is.1)

module _ (second : Bool) (generation : ℕ) (brief : Brief) (image : List ℕ) where
  pub beside_before : (more : List CheckedPatch) → MayBeBeside second generation brief image → IsBesideAmid second generation brief more image
  beside_before more is = ([], more, refl, is)

  beside_more : (more tried : List CheckedPatch) → IsBesideAmid second generation brief more image → IsBesideAmid second generation brief (more ++ tried) image
  beside_more more tried is = (is.0, is.1 ++ tried, ap (λ (ps : List CheckedPatch). ps ++ tried) is.2 ∙ append_assoc is.0 is.1 tried, is.3)

  beside_behind : (now : Brief) (more tried : List CheckedPatch) → now ≡ with_patches brief more → IsBesideAmid second generation now tried image → IsBesideAmid second generation brief (more ++ tried) image
  beside_behind now more tried same is = (
    more ++ is.0,
    is.1,
    ap (λ (ps : List CheckedPatch). more ++ ps) is.2 ∙ sym (append_assoc more is.0 is.1),
    subst (λ (b : Brief). MayBeBeside second generation b image) (ap (λ (b : Brief). with_patches b is.0) same ∙ sym (with_both more is.0 brief)) is.3,
  )

-- ---- what a crash leaves

-- the images of a zone on one file
one_images : {D : Type 0} (disks : Ghosts D) (zone : ZoneView D) (taken : List CheckedPatch) (doubt : Option CheckedPatch) → disks.tells → StandsForZone disks.tells (disks.past zone.disk) zone taken doubt
    → LeavesOnly (HoldsAmid zone_number (checked_texts taken) doubt []) (disks.past zone.disk) (disks.past zone.disk)
one_images disks zone taken None told stands =
    let all = stands.on_disk told in
    starts (HoldsAmid zone_number (checked_texts taken) None []) (disks.past zone.disk) (λ image left. amid_before zone_number (checked_texts taken) image None [] (all.each image left))
one_images disks zone taken (Some one) told stands =
    let all = stands.on_disk told in
    starts (HoldsAmid zone_number (checked_texts taken) (Some one) []) (disks.past zone.disk) (λ image left.
    amid_doubt zone_number (checked_texts taken) image (Some one) [] (either (file_length zone.brief.ids zone.brief.bytes) zone_number (checked_texts taken) one.text all.doubt_sized all.few image all.sized (all.each image left)))

-- nothing was taken
pub amid_none : (on : Footing) (zone : ZoneView (DisksOf on)) (point : Point on) → ZoneStands on zone point → LeavesBehind on point [] zone zone
amid_none (one_file disks) zone taken stands = λ told. one_images disks zone taken zone.doubt told stands
amid_none (two_files disks) zone point stands = λ told.
    let number = number_of point.second in (
      starts (HoldsAmid number (payloads_at point) zone.doubt []) (disks.past zone.disk.current) (λ image left.
          subst (λ (doubt : Option CheckedPatch). HoldsAmid number (payloads_at point) doubt [] image) stands.doubt_is
          (amid_doubt number (payloads_at point) image point.doubt [] (file_images (disks.past zone.disk.current) number (payloads_at point) point.doubt (stands.stands.on_current told) image left))),
      starts (IsBesideAmid point.second point.generation zone.brief []) (disks.past zone.disk.other) (λ image left.
          beside_before point.second point.generation zone.brief image [] (stands.stands.on_other told image left)),
    )

-- these were taken, nothing was left in doubt, and then those
pub amid_both : (on : Footing) (old mid new : ZoneView (DisksOf on)) (point : Point on) (more tried : List CheckedPatch) → mid.brief ≡ with_patches old.brief more → mid.doubt ≡ None
    → LeavesBehind on point more old mid → LeavesBehind on (further on point more mid.doubt) tried mid new → LeavesBehind on point (more ++ tried) old new
amid_both (one_file disks) old mid new taken more tried brief settled first second = λ told.
    let texts = checked_texts taken in
    then_other (HoldsAmid zone_number texts old.doubt more) (HoldsAmid zone_number (checked_texts (taken ++ more)) mid.doubt tried) (HoldsAmid zone_number texts old.doubt (more ++ tried)) (disks.past old.disk) (disks.past mid.disk) (disks.past new.disk)
    (λ image holds. amid_more zone_number texts image old.doubt more tried holds)
    (λ image holds. amid_behind zone_number texts image old.doubt mid.doubt more tried settled (subst (λ (ts : List (List ℕ)). HoldsAmid zone_number ts mid.doubt tried image) (texts_both taken more) holds))
    (first told) (second told)
amid_both (two_files disks) old mid new point more tried brief settled first second = λ told.
    let number = number_of point.second in
    let texts = payloads_at point in
    let behind = start_texts point.generation point.start ++ checked_texts (point.patches ++ more) in (
      then_other (HoldsAmid number texts old.doubt more) (HoldsAmid number behind mid.doubt tried) (HoldsAmid number texts old.doubt (more ++ tried)) (disks.past old.disk.current) (disks.past mid.disk.current) (disks.past new.disk.current)
          (λ image holds. amid_more number texts image old.doubt more tried holds)
          (λ image holds. amid_behind number texts image old.doubt mid.doubt more tried settled (subst (λ (ts : List (List ℕ)). HoldsAmid number ts mid.doubt tried image) (further_payloads point more) holds))
          (first told).0 (second told).0,
      then_other (IsBesideAmid point.second point.generation old.brief more) (IsBesideAmid point.second point.generation mid.brief tried) (IsBesideAmid point.second point.generation old.brief (more ++ tried)) (disks.past old.disk.other) (disks.past mid.disk.other) (disks.past new.disk.other)
          (λ image is. beside_more point.second point.generation old.brief image more tried is)
          (λ image is. beside_behind point.second point.generation old.brief image mid.brief more tried brief is)
          (first told).1 (second told).1,
    )

-- ---- calls

-- the disk wasn't asked
pub went_none : (on : Footing) (failed : Type 0) (disk : DisksOf on) → (failed → ⊥) → ZoneWent on failed disk disk
went_none (one_file disks) failed disk never = record { cause = λ is. absurd (never is); never_falls = omega arith; well = λ no. refl; stays_short = λ plans is. is; mark = refl }
went_none (two_files disks) failed disk never = (refl, refl, none_went disks failed disk.current disk.other never)

-- no call failed, and then others were made
pub went_both : (on : Footing) (failed : Type 0) (old mid new : DisksOf on) → ZoneWent on ⊥ old mid → ZoneWent on failed mid new → ZoneWent on failed old new
went_both (one_file disks) failed old mid new first second = record {
  cause = λ is. subst (λ (n : ℕ). Rose n (disks.faults new)) (first.well (λ no. no)) (second.cause is);
  never_falls = omega (arith, first.never_falls, second.never_falls);
  well = λ no. second.well no ∙ first.well (λ it. it);
  stays_short = λ plans is. second.stays_short plans (first.stays_short plans is);
  mark = second.mark ∙ first.mark;
}
went_both (two_files disks) failed old mid new first second =
    let one = first.2 in
    let other = second.2 in
    let well = one.well (λ no. no) in (
      second.0 ∙ first.0,
      second.1 ∙ first.1,
      record {
        cause = λ is. ⊎_elim (λ (rose : Rose (disks.faults mid.current) (disks.faults new.current)). inl (subst (λ (n : ℕ). Rose n (disks.faults new.current)) well.0 rose))
            (λ (rose : Rose (disks.faults mid.other) (disks.faults new.other)). inr (subst (λ (n : ℕ). Rose n (disks.faults new.other)) well.1 rose)) (other.cause is);
        never_falls = (omega (arith, one.never_falls.0, other.never_falls.0), omega (arith, one.never_falls.1, other.never_falls.1));
        well = λ no. ((other.well no).0 ∙ well.0, (other.well no).1 ∙ well.1);
        mark = (other.mark.0 ∙ one.mark.0, other.mark.1 ∙ one.mark.1);
      },
    )

-- the same failure in other words
pub went_as : (on : Footing) (failed other : Type 0) (old new : DisksOf on) → (other → failed) → (failed → other) → ZoneWent on failed old new → ZoneWent on other old new
went_as (one_file disks) failed other old new to back went = record { cause = λ is. went.cause (to is); never_falls = went.never_falls; well = λ no. went.well (λ is. no (back is)); stays_short = went.stays_short; mark = went.mark }
went_as (two_files disks) failed other old new to back went = (went.0, went.1, record { cause = λ is. went.2.cause (to is); never_falls = went.2.never_falls; well = λ no. went.2.well (λ is. no (back is)); mark = went.2.mark })
