-- A zone that took one patch more.
use Rattle.std.proofs.Common.{◌≡◌, ℕ, ◌+◌, ◌≤◌, List, [], ◌∷◌, ◌++◌, map, length, None, refl, sym, ◌∙◌, ap, subst, arith, length-append}
use Rattle.std.specs.Prelude.{sum_by}
use Rattle.std.proofs.lemmas.List.{map-append, length-map}
use Rattle.std.proofs.lemmas.Simd.{map-map}
use Rattle.std.proofs.lemmas.List.Sums.{sum_by-append, sum_by-cons}
use Rattle.delta_base.specs.declared.id.Id.{Id}
use Rattle.rdf_terms.specs.Dataset.{Dataset, apply, empty}
use Rattle.log_base.specs.declared.limits.LogLimits.{LogLimits}
use Rattle.log_base.specs.declared.limits.TheConstants.{PATCH_LIMIT}
use Rattle.chain_core.specs.declared.chain.Patch.{Patch}
use Rattle.chain_core.specs.Links.{IsChain}
use Rattle.chain_core.specs.Patches.{links_of, patch_ids, texts_of, version_of, last_id, framed, journal_length}
use Rattle.chain_core.proofs.Stays.{links-push, short-push}
use Rattle.chain_core.proofs.Patches.{length-push}
use Rattle.patch_meaning.specs.Checked.{CheckedPatch, AreChecked, checked_texts, meanings}
use Rattle.patch_meaning.specs.Patch.{Meaning, IsPatch}
use Rattle.patch_meaning.specs.Replay.{replay, replay_from}
use Rattle.patch_log.specs.Log.{bare}
use Rattle.chain_core.specs.Ids.{last_of, version_among}
use Rattle.zone_state.specs.Brief.{brief_of, with_patch, id_taken, file_length}
use Rattle.zone_state.specs.Zone.{AreTakenPatches}
use Rattle.zone_state.proofs.Decisions.{CanBeTaken}
use Rattle.std.specs.List.{AllByRecursion}

-- ---- what is kept of patches

replay-push : (ms : List Meaning) (m : Meaning) (d : Dataset) → replay_from (ms ++ m ∷ []) d ≡ apply m.changes (replay_from ms d)
replay-push [] m d = refl
replay-push (first ∷ ms) m d = replay-push ms m (apply first.changes d)

pub meanings-push : (taken : List CheckedPatch) (patch : CheckedPatch) → meanings (taken ++ patch ∷ []) ≡ meanings taken ++ patch.meaning ∷ []
meanings-push taken patch = map-append (λ (p : CheckedPatch). p.meaning) taken (patch ∷ [])

pub brief-push : (taken : List CheckedPatch) (patch : CheckedPatch) → brief_of (taken ++ patch ∷ []) ≡ with_patch (brief_of taken) patch
brief-push taken patch =
    let ids = map-append id_taken taken (patch ∷ []) in
    let bytes : sum_by (λ (p : CheckedPatch). length p.text) (taken ++ patch ∷ []) ≡ sum_by (λ (p : CheckedPatch). length p.text) taken + length patch.text = omega (arith, sum_by-append (λ (p : CheckedPatch). length p.text) taken (patch ∷ [])) in
    let contents : replay (meanings (taken ++ patch ∷ [])) ≡ apply patch.meaning.changes (replay (meanings taken)) = ap replay (meanings-push taken patch) ∙ replay-push (meanings taken) patch.meaning empty in
    ap (λ (is : List Id). record { ids = is; bytes = sum_by (λ (p : CheckedPatch). length p.text) (taken ++ patch ∷ []); contents = replay (meanings (taken ++ patch ∷ [])) }) ids
    ∙ ap (λ (n : ℕ). record { ids = map id_taken taken ++ patch.meaning.id ∷ []; bytes = n; contents = replay (meanings (taken ++ patch ∷ [])) }) bytes
    ∙ ap (λ (d : Dataset). record { ids = map id_taken taken ++ patch.meaning.id ∷ []; bytes = sum_by (λ (p : CheckedPatch). length p.text) taken + length patch.text; contents = d }) contents

-- ---- patches without their changes

pub bare-push : (taken : List CheckedPatch) (patch : CheckedPatch) → map bare (taken ++ patch ∷ []) ≡ map bare taken ++ bare patch ∷ []
bare-push taken patch = map-append bare taken (patch ∷ [])

pub bare_texts : (taken : List CheckedPatch) → texts_of (map bare taken) ≡ checked_texts taken
bare_texts [] = refl
bare_texts (patch ∷ taken) = ap (λ (ts : List (List ℕ)). patch.text ∷ ts) (bare_texts taken)

pub texts-push : (taken : List CheckedPatch) (patch : CheckedPatch) → checked_texts (taken ++ patch ∷ []) ≡ checked_texts taken ++ patch.text ∷ []
texts-push taken patch = map-append (λ (p : CheckedPatch). p.text) taken (patch ∷ [])

bare_ids : (taken : List CheckedPatch) → patch_ids (map bare taken) ≡ map id_taken taken
bare_ids taken = map-map (λ (p : Patch). p.id) bare taken

pub bare_versions : (taken : List CheckedPatch) (id : Id) → version_of (map bare taken) id ≡ version_among (map id_taken taken) id
bare_versions taken id = ap (λ (ids : List Id). version_among ids id) (bare_ids taken)

pub bare_last : (taken : List CheckedPatch) → last_id (map bare taken) ≡ last_of (map id_taken taken)
bare_last taken = ap last_of (bare_ids taken)

-- the length of their journal
pub bare_length : (taken : List CheckedPatch) → journal_length (map bare taken) ≡ file_length (map id_taken taken) (sum_by (λ (p : CheckedPatch). length p.text) taken)
bare_length [] = refl
bare_length (patch ∷ taken) = omega (arith, bare_length taken, sum_by-cons framed patch.text (texts_of (map bare taken)), sum_by-cons (λ (p : CheckedPatch). length p.text) patch taken)

-- ---- one patch more

pub checked-push : (taken : List CheckedPatch) (patch : CheckedPatch) → AreChecked taken → IsPatch patch.text patch.meaning → AreChecked (taken ++ patch ∷ [])
checked-push [] patch all one = (one, tt)
checked-push (first ∷ taken) patch all one = (all.0, checked-push taken patch all.1 one)

pub chain-push : (taken : List CheckedPatch) (patch : CheckedPatch) → IsChain (links_of (map bare taken)) → patch.meaning.prev ≡ last_of (map id_taken taken) → version_among (map id_taken taken) patch.meaning.id ≡ None → IsChain (links_of (map bare (taken ++ patch ∷ [])))
chain-push taken patch chain follows new =
    subst (λ (ps : List Patch). IsChain (links_of ps)) (sym (bare-push taken patch)) (links-push (map bare taken) (bare patch) chain (follows ∙ sym (bare_last taken)) (bare_versions taken patch.meaning.id ∙ new))

pub taken-push : (limits : LogLimits) (taken : List CheckedPatch) (patch : CheckedPatch) → AreTakenPatches limits taken → IsPatch patch.text patch.meaning
    → CanBeTaken (brief_of taken).ids (brief_of taken).bytes (bare patch) limits → AreTakenPatches limits (taken ++ patch ∷ [])
taken-push limits taken patch are one can =
    let longer = bare-push taken patch in
    record {
      checked = checked-push taken patch are.checked one;
      log = record {
        chain = chain-push taken patch are.log.chain can.follows can.new;
        few = omega (arith, can.places, length-map (taken ++ patch ∷ []) bare, length-append taken (patch ∷ []), length-map taken id_taken, length-map taken bare);
        room = omega (arith, can.room, ap journal_length longer, length-push (map bare taken) (bare patch), bare_length taken);
        short = subst (λ (ps : List Patch). AllByRecursion (λ (p : Patch). length p.text ≤ PATCH_LIMIT) ps) (sym longer) (short-push (map bare taken) (bare patch) are.log.short one.short);
      };
    }
