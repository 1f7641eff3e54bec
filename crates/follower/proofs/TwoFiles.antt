-- A zone on two files takes its next patch.
use Rattle.std.proofs.Common.{◌≡◌, inl, inr, ℕ, ◌+◌, Bool, List, [], ◌∷◌, ◌++◌, drop, length, Option, Some, None, refl, sym, ◌∙◌, ap, subst, arith}
use Rattle.std.proofs.lemmas.List.{append-nil, length-append, length-map}
use Rattle.disk_model.specs.declared.disk.Disk.{Ghosts}
use Rattle.disk_model.specs.Past.{MayLeave, EveryImage, LeavesOnly, reads}
use Rattle.disk_model.proofs.Moments.{weaker}
use Rattle.log_journal.specs.declared.form.Form.TheVariants.{New}
use Rattle.log_journal.proofs.OneReading.{one_list}
use Rattle.patch_meaning.specs.Checked.{CheckedPatch, AreChecked, checked_texts}
use Rattle.patch_meaning.specs.Patch.{IsPatch}
use Rattle.checkpoint_text.specs.Brief.{Brief}
use Rattle.checkpoint_text.specs.Text.{checkpoint, IsCheckpoint}
use Rattle.checkpoint_text.proofs.OneText.{one_checkpoint}
use Rattle.zone_files.specs.Generation.{number_of, IsMarked}
use Rattle.zone_pairs.specs.Briefs.{with_patch}
use Rattle.zone_pairs.specs.Pair.{PairPoint, payloads_at, start_texts, start_brief, IsStart, TakeTo, MayBeBeside, MayBeTaken, MayHoldPayloads, MayHoldTaking, FileHolds}
use Rattle.zone_pairs.proofs.Unmarked.{patch-unmarked}
use Rattle.zone_state.specs.declared.answer.TakeAnswer.{TakeAnswer}
use Rattle.zone_state.specs.declared.answer.TakeAnswer.TheVariants as take
use Rattle.zone_state.specs.Taking.{taken_then}
use Rattle.paired_zone.specs.Takes.{TakesPatch}
use Rattle.paired_zone.specs.Zone.{PairedView, StandsAt}
use Rattle.paired_zone.proofs.Standing.{file_images}
use Rattle.follower.specs.Footing.{two_files, further, on_pair, HoldsAmid, IsBesideAmid, LeavesBehind}
use Rattle.follower.specs.Taking.{TakesNext}
use Rattle.follower.proofs.Fronts.{checked_both, checked_before}
use Rattle.follower.proofs.Footings.{further_payloads, amid_doubt, amid_next, beside_before}

-- ---- a zone's payloads are none that it has with a patch more

first_text : (a b : List ℕ) (xs ys : List (List ℕ)) → a ∷ xs ≡ b ∷ ys → a ≡ b
first_text a b xs ys same = cc

marked : (generation : ℕ) (brief : Brief) → IsMarked (checkpoint generation brief)
marked generation brief = (drop 2 (checkpoint generation brief), refl)

-- a checkpoint isn't the text of a patch
no_patch : (generation : ℕ) (start : Brief) (patch : CheckedPatch) (texts behind : List (List ℕ)) → IsPatch patch.text patch.meaning → checkpoint generation start ∷ texts ≡ patch.text ∷ behind → ⊥
no_patch generation start patch texts behind is same =
    patch-unmarked patch is (subst IsMarked (first_text (checkpoint generation start) patch.text texts behind same) (marked generation start))

-- the ids of a brief are those of the first and of the patches
ids_counted : (before : Brief) (patches : List CheckedPatch) (after : Brief) → TakeTo before patches after → length after.ids ≡ length before.ids + length patches
ids_counted before [] after take = omega (arith, ap (λ (b : Brief). length b.ids) take)
ids_counted before (patch ∷ patches) after take = omega (arith, ids_counted (with_patch before patch) patches after take.1, length-append before.ids (patch.meaning.id ∷ []))

texts_counted : (patches : List CheckedPatch) → length (checked_texts patches) ≡ length patches
texts_counted patches = length-map patches (λ (patch : CheckedPatch). patch.text)

module _ (generation : ℕ) (brief : Brief) (one : CheckedPatch) (is_one : IsPatch one.text one.meaning) where
  no_more : (start other : Option Brief) (ps qs : List CheckedPatch) → IsStart generation start → IsStart generation other → AreChecked ps → AreChecked qs → TakeTo (start_brief start) ps brief → TakeTo (start_brief other) qs brief
      → start_texts generation start ++ checked_texts ps ≡ (start_texts generation other ++ checked_texts qs) ++ one.text ∷ [] → ⊥
  no_more None None ps qs is is' are are' take take' same =
      omega (arith, ids_counted (start_brief None) ps brief take, ids_counted (start_brief None) qs brief take', texts_counted ps, texts_counted qs, ap (λ (ts : List (List ℕ)). length ts) same, length-append (checked_texts qs) (one.text ∷ []))
  no_more None (Some t) [] qs is is' are are' take take' same = absurd (cc)
  no_more None (Some t) (p ∷ ps) qs is is' are are' take take' same = no_patch generation t p (checked_texts qs ++ one.text ∷ []) (checked_texts ps) are.0 (sym same)
  no_more (Some s) None ps [] is is' are are' take take' same = no_patch generation s one (checked_texts ps) [] is_one same
  no_more (Some s) None ps (q ∷ qs) is is' are are' take take' same = no_patch generation s q (checked_texts ps) (checked_texts qs ++ one.text ∷ []) are'.0 same
  no_more (Some s) (Some t) ps qs is is' are are' take take' same =
      let texts = first_text (checkpoint generation s) (checkpoint generation t) (checked_texts ps) (checked_texts qs ++ one.text ∷ []) same in
      let starts : s ≡ t = (one_checkpoint (checkpoint generation t) generation generation s t (subst (λ (x : List ℕ). IsCheckpoint x generation s) texts is) is').1 in
      omega (arith, ids_counted s ps brief take, ids_counted t qs brief take', ap (λ (b : Brief). length b.ids) starts, texts_counted ps, texts_counted qs, ap (λ (ts : List (List ℕ)). length ts) same, length-append (checked_texts qs) (one.text ∷ []))

-- ---- patches one behind another

pub take_both : (before mid after : Brief) (first second : List CheckedPatch) → TakeTo before first mid → TakeTo mid second after → TakeTo before (first ++ second) after
take_both before mid after [] second one other = subst (λ (b : Brief). TakeTo b second after) one other
take_both before mid after (patch ∷ first) second one other = (one.0, take_both (with_patch before patch) mid after first second one.1 other)

pub take_behind : (before mid after : Brief) (first second : List CheckedPatch) → TakeTo before first mid → TakeTo before (first ++ second) after → TakeTo mid second after
take_behind before mid after [] second one all = subst (λ (b : Brief). TakeTo b second after) (sym one) all
take_behind before mid after (patch ∷ first) second one all = take_behind (with_patch before patch) mid after first second one.1 all.1

then_is : (answer : TakeAnswer) (taken : List CheckedPatch) (next : CheckedPatch) → taken_then answer taken next ≡ taken ++ taken_then answer [] next
then_is (take.Applied version) taken next = refl
then_is (take.Diverged have prev) taken next = sym (append-nil taken)
then_is (take.Repeated version) taken next = sym (append-nil taken)
then_is (take.Full what have limit) taken next = sym (append-nil taken)
then_is take.TermsFull taken next = sym (append-nil taken)
then_is take.OutOfMemory taken next = sym (append-nil taken)
then_is take.DiskFault taken next = sym (append-nil taken)

-- ---- what an image holds with the one in doubt or without

same_init : {A : Type 0} (xs ys : List A) (a : A) → xs ++ a ∷ [] ≡ ys ++ a ∷ [] → xs ≡ ys
same_init [] [] a same = refl
same_init [] (y ∷ []) a same = absurd (cc)
same_init [] (y ∷ z ∷ ys) a same = absurd (cc)
same_init (x ∷ []) [] a same = absurd (cc)
same_init (x ∷ z ∷ xs) [] a same = absurd (cc)
same_init (x ∷ xs) (y ∷ ys) a same =
    let first : x ≡ y = cc in
    let rest : xs ++ a ∷ [] ≡ ys ++ a ∷ [] = cc in
    let others = same_init xs ys a rest in
    λ i. first i ∷ others i

one_held : (number : ℕ) (image : List ℕ) (first second : List (List ℕ)) (doubt : Option CheckedPatch) → MayHoldPayloads number first doubt image → MayHoldPayloads number second doubt image
    → ((one : CheckedPatch) → doubt ≡ Some one → first ≡ second ++ one.text ∷ [] → ⊥) → ((one : CheckedPatch) → doubt ≡ Some one → second ≡ first ++ one.text ∷ [] → ⊥) → first ≡ second
one_held number image first second None holds holds' not not' = one_list New image number first second holds holds'
one_held number image first second (Some one) (inl holds) (inl holds') not not' = one_list New image number first second holds holds'
one_held number image first second (Some one) (inl holds) (inr holds') not not' = absurd (not one refl (one_list New image number first (second ++ one.text ∷ []) holds holds'))
one_held number image first second (Some one) (inr holds) (inl holds') not not' = absurd (not' one refl (one_list New image number second (first ++ one.text ∷ []) holds' holds))
one_held number image first second (Some one) (inr holds) (inr holds') not not' = same_init first second one.text (one_list New image number (first ++ one.text ∷ []) (second ++ one.text ∷ []) holds holds')

module _ {D : Type 0} (disks : Ghosts D) (read : (disk : D) → disks.tells → MayLeave (disks.past disk) (reads (disks.past disk))) where
  -- ---- a zone stands for one list of payloads

  module _ (zone : PairedView D) (p q : PairPoint) (at_p : StandsAt disks zone p) (at_q : StandsAt disks zone q) where
    same_second : p.second ≡ q.second
    same_second = at_p.second_is ∙ sym at_q.second_is

    same_generation : p.generation ≡ q.generation
    same_generation = at_p.generation_is ∙ sym at_q.generation_is

    same_doubt : p.doubt ≡ q.doubt
    same_doubt = at_p.doubt_is ∙ sym at_q.doubt_is

    doubtful_patch : (limits : _) (doubt : Option CheckedPatch) (one : CheckedPatch) → MayBeTaken limits zone.brief doubt → doubt ≡ Some one → IsPatch one.text one.meaning
    doubtful_patch limits None one may is = absurd (cc)
    doubtful_patch limits (Some doubt) one may is = let same : doubt ≡ one = cc in subst (λ (c : CheckedPatch). IsPatch c.text c.meaning) same may.0

    not_more : (one : CheckedPatch) → p.doubt ≡ Some one → payloads_at p ≡ payloads_at q ++ one.text ∷ [] → ⊥
    not_more one is same =
        no_more p.generation zone.brief one (doubtful_patch zone.limits p.doubt one at_p.stands.doubtful is) p.start q.start p.patches q.patches
        at_p.stands.start_is (subst (λ (g : ℕ). IsStart g q.start) (sym same_generation) at_q.stands.start_is) at_p.stands.checked at_q.stands.checked at_p.stands.take at_q.stands.take
        (subst (λ (g : ℕ). payloads_at p ≡ (start_texts g q.start ++ checked_texts q.patches) ++ one.text ∷ []) (sym same_generation) same)

  same_payloads : (zone : PairedView D) (p q : PairPoint) → StandsAt disks zone p → StandsAt disks zone q → disks.tells → payloads_at p ≡ payloads_at q
  same_payloads zone p q at_p at_q told =
      let image = reads (disks.past zone.current) in
      let left = read zone.current told in
      let of_p = file_images (disks.past zone.current) (number_of p.second) (payloads_at p) p.doubt (at_p.stands.on_current told) image left in
      let of_q = file_images (disks.past zone.current) (number_of q.second) (payloads_at q) q.doubt (at_q.stands.on_current told) image left in
      let of_q_here = subst (λ (b : Bool). MayHoldPayloads (number_of b) (payloads_at q) p.doubt image) (sym (same_second zone p q at_p at_q))
      (subst (λ (d : Option CheckedPatch). MayHoldPayloads (number_of q.second) (payloads_at q) d image) (sym (same_doubt zone p q at_p at_q)) of_q) in
      one_held (number_of p.second) image (payloads_at p) (payloads_at q) p.doubt of_p of_q_here
      (λ one is same. not_more zone p q at_p at_q one is same)
      (λ one is same. not_more zone q p at_q at_p one (sym (same_doubt zone p q at_p at_q) ∙ is) same)

  -- ---- the next patch

  module _ (old new : PairedView D) (next : CheckedPatch) (answer : TakeAnswer) (so : TakesPatch disks old new next answer) where
    amid : (point : PairPoint) → StandsAt disks old point → LeavesBehind (two_files disks) point (next ∷ []) (on_pair old) (on_pair new)
    amid point stands told =
        let found = so.beside.point in
        let stood = so.beside.stood in
        let payloads = same_payloads old found point stood stands told in
        let second = same_second old found point stood stands in
        let generation = same_generation old found point stood stands in
        let doubt : found.doubt ≡ old.doubt = stood.doubt_is in
        let here : LeavesOnly (MayHoldTaking (number_of point.second) (payloads_at point) old.doubt next) (disks.past old.current) (disks.past new.current) =
        subst (λ (d : Option CheckedPatch). LeavesOnly (MayHoldTaking (number_of point.second) (payloads_at point) d next) (disks.past old.current) (disks.past new.current)) doubt
        (subst (λ (ts : List (List ℕ)). LeavesOnly (MayHoldTaking (number_of point.second) ts found.doubt next) (disks.past old.current) (disks.past new.current)) payloads
        (subst (λ (b : Bool). LeavesOnly (MayHoldTaking (number_of b) (payloads_at found) found.doubt next) (disks.past old.current) (disks.past new.current)) second (so.beside.on_current told))) in
        let there : LeavesOnly (MayBeBeside point.second point.generation old.brief) (disks.past old.other) (disks.past new.other) =
        subst (λ (g : ℕ). LeavesOnly (MayBeBeside point.second g old.brief) (disks.past old.other) (disks.past new.other)) generation
        (subst (λ (b : Bool). LeavesOnly (MayBeBeside b found.generation old.brief) (disks.past old.other) (disks.past new.other)) second (so.beside.on_other told)) in (
          weaker (MayHoldTaking (number_of point.second) (payloads_at point) old.doubt next) (HoldsAmid (number_of point.second) (payloads_at point) old.doubt (next ∷ [])) (λ image holds. during image holds) (disks.past old.current) (disks.past new.current) here,
          weaker (MayBeBeside point.second point.generation old.brief) (IsBesideAmid point.second point.generation old.brief (next ∷ [])) (λ image is. beside_before point.second point.generation old.brief image (next ∷ []) is) (disks.past old.other) (disks.past new.other) there,
        )
      where
        during : (image : List ℕ) → MayHoldTaking (number_of point.second) (payloads_at point) old.doubt next image → HoldsAmid (number_of point.second) (payloads_at point) old.doubt (next ∷ []) image
        during image (inl holds) = amid_doubt (number_of point.second) (payloads_at point) image old.doubt (next ∷ []) holds
        during image (inr holds) = amid_next (number_of point.second) (payloads_at point) image old.doubt next holds

    -- the patches behind the point
    abbrev more : List CheckedPatch
    more = taken_then answer [] next

    took : (point : PairPoint) → StandsAt disks old point → StandsAt disks new (further (two_files disks) point (taken_then answer [] next) new.doubt)
    took point stands =
        let found = so.beside.point in
        let stood = so.beside.stood in
        let after = so.beside.stands.stands in
        let second = same_second old found point stood stands in
        let generation = same_generation old found point stood stands in
        let there : taken_then answer found.patches next ≡ found.patches ++ more = then_is answer found.patches next in
        let are_more : AreChecked more = checked_before found.patches more (subst AreChecked there after.checked) in
        let takes_more : TakeTo old.brief more new.brief =
        take_behind (start_brief found.start) old.brief new.brief found.patches more stood.stands.take (subst (λ (ps : List CheckedPatch). TakeTo (start_brief found.start) ps new.brief) there after.take) in
        record {
          second_is = stands.second_is ∙ sym so.second;
          generation_is = stands.generation_is ∙ sym so.generation;
          doubt_is = refl;
          stands = record {
            start_is = stands.stands.start_is;
            in_first = stands.stands.in_first;
            checked = checked_both point.patches more stands.stands.checked are_more;
            take = take_both (start_brief point.start) old.brief new.brief point.patches more stands.stands.take takes_more;
            within = after.within;
            doubtful = after.doubtful;
            on_current = λ told.
                let payloads : payloads_at found ≡ payloads_at point = same_payloads old found point stood stands told in
                let same : start_texts found.generation found.start ++ checked_texts (taken_then answer found.patches next) ≡ start_texts point.generation point.start ++ checked_texts (point.patches ++ more) =
                ap (λ (ps : List CheckedPatch). start_texts found.generation found.start ++ checked_texts ps) there
                ∙ (further_payloads found more ∙ (ap (λ (ts : List (List ℕ)). ts ++ checked_texts more) payloads ∙ sym (further_payloads point more))) in
                subst (λ (ts : List (List ℕ)). FileHolds (disks.past new.current) (number_of point.second) ts new.doubt) same
                (subst (λ (b : Bool). FileHolds (disks.past new.current) (number_of b) (start_texts found.generation found.start ++ checked_texts (taken_then answer found.patches next)) new.doubt) second (after.on_current told));
            on_other = λ told.
                subst (λ (g : ℕ). EveryImage (disks.past new.other) (MayBeBeside point.second g new.brief)) generation
                (subst (λ (b : Bool). EveryImage (disks.past new.other) (MayBeBeside b found.generation new.brief)) second (after.on_other told));
          };
        }

    pub takes_on_two : TakesNext (two_files disks) (on_pair old) (on_pair new) next answer
    takes_on_two = record {
      decided = so.decided;
      terms_full = so.terms_full;
      terms = so.terms;
      applied = so.applied;
      refused = so.refused;
      untouched = λ well refused. ap on_pair (so.untouched well refused);
      same = λ point stands never. ap on_pair (so.same never);
      doubt = so.doubt;
      took = took;
      amid = amid;
      went = (so.second, so.generation, so.went);
      limits = so.limits;
    }
