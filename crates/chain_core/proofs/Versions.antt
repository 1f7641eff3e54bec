-- The last of some ids and their versions, when there is one id more.
use Rattle.std.proofs.Common.{◌≡◌, ◌≢◌, ℕ, ◌+◌, Bool, true, false, cond, eqb, List, [], ◌∷◌, ◌++◌, map, length, Option, Some, None, refl, sym, ◌∙◌, ap, subst, arith}
use Rattle.std.specs.Prelude.{slice_get}
use Rattle.std.specs.Option.{option_map}
use Rattle.std.specs.List.{AllByRecursion}
use Rattle.std.proofs.lemmas.List.{map-append}
use Rattle.std.proofs.lemmas.Simd.{map-map}
use Rattle.std.proofs.lemmas.Bool.{eqb-false, eqb-true, ne_eqb}
use Rattle.delta_base.specs.declared.id.Id.{Id}
use Rattle.chain_core.specs.declared.chain.Patch.{Patch}
use Rattle.chain_core.specs.declared.chain.Entry.{Entry}
use Rattle.log_base.specs.declared.chain_link.ChainLink.{ChainLink}
use Rattle.chain_core.specs.Ids.{last_of, version_among}
use Rattle.chain_core.specs.Links.{AllDiffer, link_ids}
use Rattle.chain_core.specs.Chain.{entry_link}
use Rattle.chain_core.specs.Patches.{patches_of, links_of, patch_ids, version_of}

-- ---- the last one

-- the last one, or else the head
abbrev pub last_or : Option Id → List Id → Option Id
last_or head [] = head
last_or head (id ∷ ids) = last_or (Some id) ids

last_behind : (first : Id) (ids : List Id) → slice_get (first ∷ ids) (length ids) ≡ last_or (Some first) ids
last_behind first [] = refl
last_behind first (next ∷ ids) = last_behind next ids

pub last_is : (ids : List Id) → last_of ids ≡ last_or None ids
last_is [] = refl
last_is (first ∷ ids) = ap (slice_get (first ∷ ids)) (omega arith) ∙ last_behind first ids

last_or-push : (head : Option Id) (ids : List Id) (id : Id) → last_or head (ids ++ id ∷ []) ≡ Some id
last_or-push head [] id = refl
last_or-push head (first ∷ ids) id = last_or-push (Some first) ids id

pub last_of-push : (ids : List Id) (id : Id) → last_of (ids ++ id ∷ []) ≡ Some id
last_of-push ids id = last_is (ids ++ id ∷ []) ∙ last_or-push None ids id

-- ---- versions

none_parts : (test : Bool) (later : Option ℕ) → cond test (Some 1) (option_map (λ version. version + 1) later) ≡ None → (test ≡ false) × (later ≡ None)
none_parts true later is = absurd (cc)
none_parts false None is = (refl, refl)
none_parts false (Some version) is = absurd (cc)

-- none is the id
pub none-cons : (first : Id) (ids : List Id) (id : Id) → version_among (first ∷ ids) id ≡ None → (eqb first.0 id.0 ≡ false) × (version_among ids id ≡ None)
none-cons first ids id = none_parts (eqb first.0 id.0) (version_among ids id)

-- the first one is found first
by_tests : (first last : Bool) (count : ℕ) (later : Option ℕ) → (first ≡ true → last ≡ true → ⊥)
    → cond first (Some 1) (option_map (λ version. version + 1) (cond last (Some count) later)) ≡ cond last (Some (count + 1)) (cond first (Some 1) (option_map (λ version. version + 1) later))
by_tests true true count later apart = absurd (apart refl refl)
by_tests true false count later apart = refl
by_tests false true count later apart = refl
by_tests false false count later apart = refl

-- a new one is found behind the others, and each of these where it was
pub versions-push : (ids : List Id) (new id : Id) → version_among ids new ≡ None → version_among (ids ++ new ∷ []) id ≡ cond (eqb new.0 id.0) (Some (length ids + 1)) (version_among ids id)
versions-push [] new id none = refl
versions-push (first ∷ ids) new id none =
    let parts = none-cons first ids new none in
    let counted : length (first ∷ ids) ≡ length ids + 1 = omega arith in
    rw (versions-push ids new id parts.1, counted)
    (by_tests (eqb first.0 id.0) (eqb new.0 id.0) (length ids + 1) (version_among ids id) (λ here there. eqb-false _ _ parts.0 (eqb-true _ _ here ∙ sym (eqb-true _ _ there))))

last_has : (P : Id → Type 0) (ids : List Id) (id : Id) → AllByRecursion P (ids ++ id ∷ []) → P id
last_has P [] id all = all.0
last_has P (first ∷ ids) id all = last_has P ids id all.1

-- the last one is new where all differ
pub new_behind : (ids : List Id) (id : Id) → AllDiffer (ids ++ id ∷ []) → version_among ids id ≡ None
new_behind [] id differ = refl
new_behind (first ∷ ids) id differ =
    let apart = last_has (λ j. j ≢ first) ids id differ.0 in
    let other : eqb first.0 id.0 ≡ false = ne_eqb _ _ (λ same. apart (ap (λ (n : ℕ). let i : Id = record { 0 = n } in i) (sym same))) in
    rw (other, new_behind ids id differ.1) refl

-- ---- links, patches and entries

abbrev pub link_to : Patch → ChainLink
link_to patch = record { id = patch.id; prev = patch.prev }

abbrev pub id_of : ChainLink → Id
id_of l = l.id

pub link_ids-push : (ls : List ChainLink) (l : ChainLink) → link_ids (ls ++ l ∷ []) ≡ link_ids ls ++ l.id ∷ []
link_ids-push ls l = map-append id_of ls (l ∷ [])

pub same_ids : (patches : List Patch) → link_ids (links_of patches) ≡ patch_ids patches
same_ids patches = map-map id_of link_to patches

pub links_of-entries : (entries : List Entry) → links_of (patches_of entries) ≡ map entry_link entries
links_of-entries entries = map-map link_to (λ (e : Entry). e.patch) entries

pub new_entry : (entries : List Entry) (entry : Entry) → AllDiffer (link_ids (map entry_link (entries ++ entry ∷ []))) → version_of (patches_of entries) entry.patch.id ≡ None
new_entry entries entry differ =
    let longer : link_ids (map entry_link (entries ++ entry ∷ [])) ≡ patch_ids (patches_of entries) ++ entry.patch.id ∷ [] =
    ap link_ids (map-append entry_link entries (entry ∷ [])) ∙ link_ids-push (map entry_link entries) (entry_link entry)
    ∙ ap (λ (ls : List ChainLink). link_ids ls ++ entry.patch.id ∷ []) (sym (links_of-entries entries)) ∙ ap (λ (ids : List Id). ids ++ entry.patch.id ∷ []) (same_ids (patches_of entries)) in
    new_behind (patch_ids (patches_of entries)) entry.patch.id (subst AllDiffer longer differ)
