-- What a zone takes of the texts of a chain begins that chain.
use Rattle.std.proofs.Common.{◌≡◌, ℕ, ◌+◌, List, [], ◌∷◌, ◌++◌, length, Option, Some, None, Ok, refl, sym, ◌∙◌, ap, subst, append_assoc, arith}
use Rattle.std.proofs.lemmas.List.{append-nil, length-append}
use mathlib.Core.List.{IsPrefix}
use Rattle.log_base.specs.OneMore.{with_one_more}
use Rattle.patch_meaning.specs.Checked.{AreChecked, CheckedPatch, checked_texts}
use Rattle.patch_meaning.specs.Patch.{IsPatch}
use Rattle.patch_meaning.proofs.Settled.{one_meaning}
use Rattle.delta_client.specs.Exchanges.{WasSaid}
use Rattle.rpc_answers.specs.declared.answer.Answer.TheVariants as answer
use Rattle.rpc_calls.specs.declared.call.Call.{Call}
use Rattle.rpc_calls.specs.declared.call.Call.TheVariants as calls
use Rattle.zone_state.specs.Brief.{Brief, brief_of}
use Rattle.zone_state.specs.Zone.{ZoneView}
use Rattle.zone_state.proofs.Growing.{brief-push}
use Rattle.zone_state.proofs.Sound.{heads}
use Rattle.catch_up.specs.declared.end.RunEnd.{RunEnd}
use Rattle.catch_up.specs.Runs.{texts_said}
use Rattle.delta_base.specs.declared.id.Id.{Id}
use Rattle.follower.specs.declared.ends.SyncEnd.{SyncEnd}
use Rattle.follower.specs.declared.ends.TextRefusal.{TextRefusal}
use Rattle.follower.specs.Calls.{calls_of, came, fetches}
use Rattle.delta_client.specs.Serving.{AllSaid}
use Rattle.follower.specs.Chains.{IsToldTexts, FollowsChain, HasTextAt, TextIsOf, TextsAreOf}
use Rattle.follower.specs.Footing.{Footing, one_file, two_files, DisksOf, HasTaken, further, with_patches}
use Rattle.follower.specs.Grown.{TookMore, LeftInDoubt, none, as_before, tried_last, untried, was_next, WasTried}
use Rattle.follower.specs.Syncing.{EndIs, RunEnds, unanswered, compared, stopped, caught_up}

-- ---- lists

pub same_front : {A : Type 0} (xs ys more others : List A) → xs ++ more ≡ ys ++ others → length xs ≡ length ys → (xs ≡ ys) × (more ≡ others)
same_front [] [] more others is long = (refl, is)
same_front [] (y ∷ ys) more others is long = absurd (omega (arith, long))
same_front (x ∷ xs) [] more others is long = absurd (omega (arith, long))
same_front (x ∷ xs) (y ∷ ys) more others is long =
    let parts = heads x y (xs ++ more) (ys ++ others) is in
    let rest = same_front xs ys more others parts.1 (omega (arith, long)) in
    ((λ i. parts.0 i ∷ rest.0 i), rest.1)

pub shorter_prefix : {A : Type 0} (xs ys whole : List A) → IsPrefix (xs ++ ys) whole → IsPrefix xs whole
shorter_prefix xs ys whole is = (ys ++ is.0, sym (append_assoc xs ys is.0) ∙ is.1)

-- ---- patches

pub checked_both : (first second : List CheckedPatch) → AreChecked first → AreChecked second → AreChecked (first ++ second)
checked_both [] second one other = other
checked_both (p ∷ first) second one other = (one.0, checked_both first second one.1 other)

pub checked_front : (first second : List CheckedPatch) → AreChecked (first ++ second) → AreChecked first
checked_front [] second all = tt
checked_front (p ∷ first) second all = (all.0, checked_front first second all.1)

pub checked_before : (first second : List CheckedPatch) → AreChecked (first ++ second) → AreChecked second
checked_before [] second all = all
checked_before (p ∷ first) second all = checked_before first second all.1

checked_at : (before : List CheckedPatch) (p : CheckedPatch) (behind : List CheckedPatch) → AreChecked (before ++ p ∷ behind) → IsPatch p.text p.meaning
checked_at [] p behind all = all.0
checked_at (first ∷ before) p behind all = checked_at before p behind all.1

-- a patch is told by its text
one_patch : (p q : CheckedPatch) → IsPatch p.text p.meaning → IsPatch q.text q.meaning → p.text ≡ q.text → p ≡ q
one_patch p q is other same =
    let meaning : p.meaning ≡ q.meaning = one_meaning q.text p.meaning q.meaning (subst (λ (t : List ℕ). IsPatch t p.meaning) same is) other in
    (λ i. record { text = same i; meaning = meaning i })

module _ (chain : List CheckedPatch) (checked : AreChecked chain) where
  pub text_of_chain : (version : ℕ) (text : List ℕ) (has : HasTextAt chain version text) → IsPatch text has.patch.meaning
  text_of_chain version text has =
      subst (λ (t : List ℕ). IsPatch t has.patch.meaning) has.text_is (checked_at has.before has.patch has.behind (subst AreChecked has.chain_is checked))

  -- the next text of the chain
  pub one_more : (taken : List CheckedPatch) (next : CheckedPatch) → IsPatch next.text next.meaning → IsPrefix taken chain → HasTextAt chain (length taken + 1) next.text → IsPrefix (taken ++ next ∷ []) chain
  one_more taken next is begins has =
      let long : length taken ≡ length has.before = omega (arith, has.version_is) in
      let parts = same_front taken has.before begins.0 (has.patch ∷ has.behind) (begins.1 ∙ has.chain_is) long in
      let same : next ≡ has.patch = one_patch next has.patch is (checked_at has.before has.patch has.behind (subst AreChecked has.chain_is checked)) (sym has.text_is) in
      (has.behind, append_assoc taken (next ∷ []) has.behind ∙ ((λ i. parts.0 i ++ (same i ∷ has.behind)) ∙ sym has.chain_is))

  module _ (P : Call → WasSaid → Type 0) (tells : (name : List ℕ) (version : ℕ) (text : List ℕ) → P (calls.FetchVersion name version) (Ok (answer.Patch text)) → HasTextAt chain version text) (name : List ℕ) where
    -- the texts of these, one after another, and what was said behind them
    pub all_more : (taken more : List CheckedPatch) (last : List WasSaid) → AreChecked more → IsPrefix taken chain
        → AllSaid P (fetches name (length taken + 1) (texts_said (checked_texts more) ++ last)) (texts_said (checked_texts more) ++ last)
        → IsPrefix (taken ++ more) chain × AllSaid P (fetches name (length (taken ++ more) + 1) last) last
    all_more taken [] last are begins said =
        let same : taken ≡ taken ++ [] = sym (append-nil taken) in
        (subst (λ (ps : List CheckedPatch). IsPrefix ps chain) same begins, subst (λ (ps : List CheckedPatch). AllSaid P (fetches name (length ps + 1) last) last) same said)
    all_more taken (p ∷ more) last are begins said =
        let longer : length taken + 1 + 1 ≡ length (taken ++ p ∷ []) + 1 = omega (arith, length-append taken (p ∷ [])) in
        let here = one_more taken p are.0 begins (tells name (length taken + 1) p.text said.0) in
        let rest = all_more (taken ++ p ∷ []) more last are.1 here (subst (λ (n : ℕ). AllSaid P (fetches name n (texts_said (checked_texts more) ++ last)) (texts_said (checked_texts more) ++ last)) longer said.1) in
        let same : (taken ++ p ∷ []) ++ more ≡ taken ++ p ∷ more = append_assoc taken (p ∷ []) more in
        (subst (λ (ps : List CheckedPatch). IsPrefix ps chain) same rest.0, subst (λ (ps : List CheckedPatch). AllSaid P (fetches name (length ps + 1) last) last) same rest.1)

    -- and so behind the log's call
    pub all_came : (taken more : List CheckedPatch) (theirs : ℕ) (head : Option Id) (said last : List WasSaid) → said ≡ came theirs head more last → AreChecked more → IsPrefix taken chain → AllSaid P (calls_of name (length taken) said) said
        → IsPrefix (taken ++ more) chain × AllSaid P (fetches name (length (taken ++ more) + 1) last) last
    all_came taken more theirs head said last is are begins all =
        let so = subst (λ (it : List WasSaid). AllSaid P (calls_of name (length taken) it) it) is all in
        all_more taken more last are begins so.1

-- ---- a zone

begins_without : (chain taken : List CheckedPatch) (doubt : Option CheckedPatch) → IsPrefix (with_one_more taken doubt) chain → IsPrefix taken chain
begins_without chain taken None begins = begins
begins_without chain taken (Some one) begins = shorter_prefix taken (one ∷ []) chain begins

-- patches that begin the chain, and those taken behind them
module _ {D : Type 0} (old new : ZoneView D) (chain taken more : List CheckedPatch) (name : List ℕ) (said : List WasSaid) (end : SyncEnd) (checked : AreChecked chain) (begins : IsPrefix taken chain) (are_checked : AreChecked more)
    (texts : TextsAreOf chain (calls_of name (length taken) said) said) (ended : EndIs old new said more end)
  where
    after : (theirs : ℕ) (head : Option Id) (last : List WasSaid) → said ≡ came theirs head more last → IsPrefix (taken ++ more) chain × TextsAreOf chain (fetches name (length (taken ++ more) + 1) last) last
    after theirs head last is = all_came chain checked (TextIsOf chain) (λ name version text has. has) name taken more theirs head said last is are_checked begins texts

    none_taken : more ≡ [] → IsPrefix (taken ++ more) chain
    none_taken no_more = subst (λ (ps : List CheckedPatch). IsPrefix ps chain) (sym (append-nil taken) ∙ ap (λ (ps : List CheckedPatch). taken ++ ps) (sym no_more)) begins

    began_untried : (of_run : RunEnd TextRefusal) → RunEnds old new said more of_run → IsPrefix (taken ++ more) chain
    began_untried of_run (unanswered no_more same ends) = none_taken no_more
    began_untried of_run (compared theirs head is no_more same ends) = none_taken no_more
    began_untried of_run (stopped theirs head last is before within ends) = (after theirs head last is).0
    began_untried of_run (caught_up theirs head is before all ends) = (after theirs head [] is).0

    -- those taken and the one tried begin the chain
    pub began_by : (tried : List CheckedPatch) → WasTried new more said tried → IsPrefix (taken ++ (more ++ tried)) chain
    began_by tried (untried no_tried) =
        subst (λ (ps : List CheckedPatch). IsPrefix (taken ++ ps) chain) (sym (append-nil more) ∙ ap (λ (ps : List CheckedPatch). more ++ ps) (sym no_tried)) (began_untried ended.0 ended.2)
    began_by tried (was_next next listed fetched can) =
        let so = after fetched.0.0 fetched.0.1 (Ok (answer.Patch next.text) ∷ []) fetched.0.2 in
        let longer = one_more chain checked (taken ++ more) next fetched.1 so.0 so.1.0 in
        subst (λ (ps : List CheckedPatch). IsPrefix ps chain) (append_assoc taken more (next ∷ []) ∙ ap (λ (ps : List CheckedPatch). taken ++ (more ++ ps)) (sym listed)) longer

-- ---- what is kept

replay_more : (taken more : List CheckedPatch) → with_patches (brief_of taken) more ≡ brief_of (taken ++ more)
replay_more taken [] = ap brief_of (sym (append-nil taken))
replay_more taken (next ∷ more) =
    ap (λ (b : Brief). with_patches b more) (sym (brief-push taken next)) ∙ replay_more (taken ++ next ∷ []) more ∙ ap brief_of (append_assoc taken (next ∷ []) more)

has_brief : (on : Footing) (zone : ZoneView (DisksOf on)) (taken : List CheckedPatch) → HasTaken on zone taken → zone.brief ≡ brief_of taken
has_brief (one_file disks) zone taken stands = stands.brief_is
has_brief (two_files disks) zone taken stands = stands.1

has_more : (on : Footing) (old new : ZoneView (DisksOf on)) (taken more : List CheckedPatch) → new.brief ≡ with_patches old.brief more → TookMore on old new more → HasTaken on old taken → HasTaken on new (taken ++ more)
has_more (one_file disks) old new taken more brief took stands = took taken stands
has_more (two_files disks) old new taken more brief took stands = (
  (further (two_files disks) stands.0.0 more new.doubt, took stands.0.0 stands.0.1),
  brief ∙ (ap (λ (b : Brief). with_patches b more) stands.1 ∙ replay_more taken more),
)

-- the brief behind patches that a chain of this length took
pub kept_more : (old new : Brief) (taken more : List CheckedPatch) → old ≡ brief_of taken → new ≡ with_patches old more → new ≡ brief_of (taken ++ more)
kept_more old new taken more was brief = brief ∙ (ap (λ (b : Brief). with_patches b more) was ∙ replay_more taken more)

module _ (on : Footing) (old new : ZoneView (DisksOf on)) (chain taken more : List CheckedPatch) (name : List ℕ) (said : List WasSaid) (end : SyncEnd) (w : IsToldTexts on chain old new taken more name said end) where
  pub begins : IsPrefix taken chain
  begins = begins_without chain taken old.doubt w.begins

  stands : HasTaken on new (taken ++ more)
  stands = has_more on old new taken more w.grew.brief w.grew.took w.stands

  pub began : IsPrefix (taken ++ (more ++ w.grew.tried)) chain
  began = began_by old new chain taken more name said end w.checked begins w.grew.checked w.texts w.ended w.grew.tried w.grew.was_tried

  began_taken : IsPrefix (taken ++ more) chain
  began_taken = shorter_prefix (taken ++ more) w.grew.tried chain (subst (λ (ps : List CheckedPatch). IsPrefix ps chain) (sym (append_assoc taken more w.grew.tried)) began)

  begins_with : LeftInDoubt old.doubt new.doubt more w.grew.tried → IsPrefix (with_one_more (taken ++ more) new.doubt) chain
  begins_with (none is) = subst (λ (doubt : Option CheckedPatch). IsPrefix (with_one_more (taken ++ more) doubt) chain) (sym is) began_taken
  begins_with (as_before no_more same) =
      subst (λ (doubt : Option CheckedPatch). IsPrefix (with_one_more (taken ++ more) doubt) chain) (sym same)
      (subst (λ (ps : List CheckedPatch). IsPrefix (with_one_more ps old.doubt) chain) (sym (append-nil taken) ∙ ap (λ (ps : List CheckedPatch). taken ++ ps) (sym no_more)) w.begins)
  begins_with (tried_last one is listed) =
      subst (λ (doubt : Option CheckedPatch). IsPrefix (with_one_more (taken ++ more) doubt) chain) (sym is)
      (subst (λ (ps : List CheckedPatch). IsPrefix ps chain) (ap (λ (ps : List CheckedPatch). taken ++ (more ++ ps)) listed ∙ sym (append_assoc taken more (one ∷ []))) began)

  pub follows_on : FollowsChain on chain new (taken ++ more)
  follows_on = record { stands = stands; begins = begins_with w.grew.left_is; replayed = has_brief on new (taken ++ more) stands }

  -- a front of the patches begins the chain
  pub front_begins : (front behind : List CheckedPatch) → more ++ w.grew.tried ≡ front ++ behind → IsPrefix (taken ++ front) chain
  front_begins front behind is =
      shorter_prefix (taken ++ front) behind chain (subst (λ (ps : List CheckedPatch). IsPrefix ps chain) (ap (λ (ps : List CheckedPatch). taken ++ ps) is ∙ sym (append_assoc taken front behind)) began)

  -- and so does the one in doubt
  pub doubt_begins : (one : CheckedPatch) → old.doubt ≡ Some one → IsPrefix (taken ++ one ∷ []) chain
  doubt_begins one is = subst (λ (doubt : Option CheckedPatch). IsPrefix (with_one_more taken doubt) chain) is w.begins
