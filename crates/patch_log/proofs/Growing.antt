-- An index that gets the id of one patch more.
use Rattle.std.proofs.Common.{◌≡◌, ℕ, ◌+◌, List, [], ◌∷◌, ◌++◌, length, None, sym, ◌∙◌, ap, subst}
use Rattle.std.proofs.lemmas.List.{length-map, map-append}
use Rattle.delta_base.specs.declared.id.Id.{Id}
use Rattle.chain_core.specs.declared.chain.Entry.{Entry}
use Rattle.chain_core.specs.declared.chain.Patch.{Patch}
use Rattle.chain_core.specs.declared.id_index.IdIndex.{IdIndex}
use Rattle.chain_core.specs.Index.{HasOneMore, IsIndexOf}
use Rattle.chain_core.specs.Patches.{patch_of, patches_of, patch_ids, version_of}
use Rattle.chain_core.proofs.Patches.{patches_of-push}

abbrev id_of : Patch → Id
id_of patch = patch.id

pub index_grown : (entries : List Entry) (entry : Entry) (old new : IdIndex) (version : ℕ) → IsIndexOf old (patch_ids (patches_of entries)) → version_of (patches_of entries) entry.patch.id ≡ None → version ≡ length entries + 1
    → HasOneMore old entry.patch.id version new → IsIndexOf new (patch_ids (patches_of (entries ++ entry ∷ [])))
index_grown entries entry old new version was is_new is more =
    let patches = patches_of entries in
    let longer : patch_ids (patches_of (entries ++ entry ∷ [])) ≡ patch_ids patches ++ entry.patch.id ∷ [] = ap patch_ids (patches_of-push entries entry) ∙ map-append id_of patches (entry.patch ∷ []) in
    subst (IsIndexOf new) (sym longer) (more (patch_ids patches) was is_new (is ∙ ap (λ (n : ℕ). n + 1) (sym (length-map patches id_of ∙ length-map entries patch_of))))
