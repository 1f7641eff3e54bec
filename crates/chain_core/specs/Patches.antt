-- The patches of a chain, without who brought them.
use Rattle.std.specs.Prelude.{ℕ, zero, suc, ◌+◌, List, map, length, slice_get, Option, Some, None}
use Rattle.delta_base.specs.declared.id.Id.{Id}
use Rattle.log_base.specs.Journals.{payloads_length}
use Rattle.log_base.specs.declared.limits.TheConstants.{PAYLOAD_FRAME}
use Rattle.chain_core.specs.declared.chain.Patch.{Patch}
use Rattle.chain_core.specs.declared.chain.Entry.{Entry}
use Rattle.log_base.specs.declared.chain_link.ChainLink.{ChainLink}
use Rattle.chain_core.specs.Ids.{last_of, version_among}

abbrev pub patch_of : Entry → Patch
patch_of entry = entry.patch

abbrev pub patches_of : List Entry → List Patch
patches_of entries = map patch_of entries

abbrev pub links_of : List Patch → List ChainLink
links_of patches = map (λ patch. record { id = patch.id; prev = patch.prev }) patches

abbrev pub patch_ids : List Patch → List Id
patch_ids patches = map (λ patch. patch.id) patches

abbrev pub texts_of : List Patch → List (List ℕ)
texts_of patches = map (λ patch. patch.text) patches

-- the version of the patch with this id, counted from 1
abbrev pub version_of : List Patch → Id → Option ℕ
version_of patches id = version_among (patch_ids patches) id

-- what stands at a version, counted from 1
abbrev pub at_version : {T : Type 0} → List T → ℕ → Option T
at_version items zero = None
at_version items (suc before) = slice_get items before

-- the patch of a version
abbrev pub patch_at : List Patch → ℕ → Option Patch
patch_at patches version = at_version patches version

-- the patch of a version, if there is one
abbrev pub patch_named : List Patch → Option ℕ → Option Patch
patch_named patches None = None
patch_named patches (Some version) = patch_at patches version

-- the id of the last patch
abbrev pub last_id : List Patch → Option Id
last_id patches = last_of (patch_ids patches)

-- what a journal has for a payload
abbrev pub framed : List ℕ → ℕ
framed text = PAYLOAD_FRAME + length text

-- the length of a journal that holds the patches
abbrev pub journal_length : List Patch → ℕ
journal_length patches = payloads_length (texts_of patches)
