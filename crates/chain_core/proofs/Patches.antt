-- Patches of a chain, where they stand, and their journal's length.
use Rattle.std.proofs.Common.{◌≡◌, ℕ, zero, suc, ◌+◌, ◌-◌, ◌*◌, ◌≤◌, List, [], ◌∷◌, ◌++◌, length, map, refl, sym, ◌∙◌, ap, arith}
use Rattle.std.specs.Prelude.{slice_get, sum_by}
use Rattle.std.specs.Option.{option_map}
use Rattle.std.specs.List.{AllByRecursion}
use Rattle.std.proofs.lemmas.Option.{slice_get-map}
use Rattle.std.proofs.lemmas.List.Sums.{sum_by-append, sum_by-cons}
use Rattle.std.proofs.lemmas.List.{length-map, map-append}
use Rattle.std.proofs.lemmas.Simd.{map-map}
use Rattle.delta_base.specs.declared.id.Id.{Id}
use Rattle.log_base.specs.declared.limits.TheConstants.{PATCH_LIMIT, PAYLOAD_FRAME}
use Rattle.chain_core.specs.declared.chain.Patch.{Patch}
use Rattle.chain_core.specs.declared.chain.Entry.{Entry}
use Rattle.chain_core.specs.Patches.{patch_of, patches_of, patch_ids, texts_of, at_version, patch_at, last_id, journal_length}

abbrev pub id_in : Entry → Id
id_in entry = entry.patch.id

pub head-patches : (entries : List Entry) → option_map id_in (slice_get entries (length entries - 1)) ≡ last_id (patches_of entries)
head-patches entries =
    let ids = patch_ids (patches_of entries) in
    let same : ids ≡ map id_in entries = map-map (λ (p : Patch). p.id) patch_of entries in
    sym (slice_get-map id_in entries (length entries - 1)) ∙ ap (λ (is : List Id). slice_get is (length entries - 1)) (sym same) ∙ ap (λ (n : ℕ). slice_get ids (n - 1)) (sym (ap length same ∙ length-map entries id_in))

-- the patch of an entry
pub patch_at-entries : (entries : List Entry) (version : ℕ) → patch_at (patches_of entries) version ≡ option_map patch_of (at_version entries version)
patch_at-entries entries zero = refl
patch_at-entries entries (suc before) = slice_get-map patch_of entries before

-- lengths
abbrev framed : List ℕ → ℕ
framed text = PAYLOAD_FRAME + length text

pub length_bound : (entries : List Entry) → AllByRecursion (λ e. length e.patch.text ≤ PATCH_LIMIT) entries → sum_by framed (texts_of (patches_of entries)) ≤ length entries * (PAYLOAD_FRAME + PATCH_LIMIT)
length_bound [] short = omega arith
length_bound (entry ∷ entries) short = omega (arith, sum_by-cons framed entry.patch.text (texts_of (patches_of entries)), length_bound entries short.1, short.0)

pub length-push : (patches : List Patch) (patch : Patch) → journal_length (patches ++ patch ∷ []) ≡ journal_length patches + PAYLOAD_FRAME + length patch.text
length-push patches patch =
    omega (arith, ap (sum_by framed) (map-append (λ (p : Patch). p.text) patches (patch ∷ [])), sum_by-append framed (texts_of patches) (patch.text ∷ []))

pub patches_of-push : (entries : List Entry) (entry : Entry) → patches_of (entries ++ entry ∷ []) ≡ patches_of entries ++ entry.patch ∷ []
patches_of-push entries entry = map-append patch_of entries (entry ∷ [])

pub journal-push : (entries : List Entry) (entry : Entry) (bytes more : ℕ) → bytes ≡ journal_length (patches_of entries) → more ≡ bytes + (PAYLOAD_FRAME + length entry.patch.text) → more ≡ journal_length (patches_of (entries ++ entry ∷ []))
journal-push entries entry bytes more was is = omega (arith, was, is, length-push (patches_of entries) entry.patch, ap journal_length (patches_of-push entries entry))

-- the last one of entries with short texts has a short one
pub last_short : (entries : List Entry) (entry : Entry) → AllByRecursion (λ e. length e.patch.text ≤ PATCH_LIMIT) (entries ++ entry ∷ []) → length entry.patch.text ≤ PATCH_LIMIT
last_short [] entry short = short.0
last_short (first ∷ entries) entry short = last_short entries entry short.1
