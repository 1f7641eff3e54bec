-- Fronts of chains, and chains as entries keep them.
use Rattle.std.proofs.Common.{◌≡◌, ◌≢◌, ℕ, zero, suc, ◌^◌, ◌<◌, ◌≤◌, List, [], ◌∷◌, ◌++◌, length, take, Option, None, Some, refl, sym, ap, ◌∙◌, subst}
use Rattle.std.specs.List.{AllByRecursion}
use Rattle.std.proofs.lemmas.List.{map-append, take-map, take_at}
use Rattle.delta_base.specs.declared.id.Id.{Id}
use Rattle.log_base.specs.declared.limits.TheConstants.{PATCH_LIMIT}
use Rattle.chain_core.specs.declared.chain.Patch.{Patch}
use Rattle.chain_core.specs.declared.chain.Entry.{Entry}
use Rattle.log_base.specs.declared.chain_link.ChainLink.{ChainLink}
use Rattle.chain_core.specs.Ids.{last_of, version_among}
use Rattle.chain_core.specs.Links.{Follow, AllDiffer, IsChain, link_ids}
use Rattle.chain_core.specs.Chain.{IsBoundedChain}
use Rattle.chain_core.specs.Patches.{patches_of, links_of, version_of, last_id}
use Rattle.chain_core.proofs.Versions.{id_of, last_or, last_is, link_ids-push, link_to, new_behind, same_ids, links_of-entries}

-- ---- the first patches of a chain

follow-take : (head : Option Id) (ls : List ChainLink) (n : ℕ) → Follow head ls → Follow head (take n ls)
follow-take head [] zero follow = tt
follow-take head [] (suc n) follow = tt
follow-take head (l ∷ ls) zero follow = tt
follow-take head (l ∷ ls) (suc n) follow = (follow.0, follow-take (Some l.id) ls n follow.1)

all-take : (P : Id → Type 0) (ids : List Id) (n : ℕ) → AllByRecursion P ids → AllByRecursion P (take n ids)
all-take P [] zero all = tt
all-take P [] (suc n) all = tt
all-take P (id ∷ ids) zero all = tt
all-take P (id ∷ ids) (suc n) all = (all.0, all-take P ids n all.1)

differ-take : (ids : List Id) (n : ℕ) → AllDiffer ids → AllDiffer (take n ids)
differ-take [] zero differ = tt
differ-take [] (suc n) differ = tt
differ-take (id ∷ ids) zero differ = tt
differ-take (id ∷ ids) (suc n) differ = (all-take (λ j. j ≢ id) ids n differ.0, differ-take ids n differ.1)

pub chain-take : (ls : List ChainLink) (n : ℕ) → IsChain ls → IsChain (take n ls)
chain-take ls n chain = record { follow = follow-take None ls n chain.follow; differ = subst AllDiffer (take-map id_of n ls) (differ-take (link_ids ls) n chain.differ) }

pub links-take : (patches : List Patch) (n : ℕ) → IsChain (links_of patches) → IsChain (links_of (take n patches))
links-take patches n chain = subst IsChain (take-map link_to n patches) (chain-take (links_of patches) n chain)

-- ---- a chain without its last patch

last_follows : (head : Option Id) (ls : List ChainLink) (l : ChainLink) → Follow head (ls ++ l ∷ []) → l.prev ≡ last_or head (link_ids ls)
last_follows head [] l follow = follow.0
last_follows head (x ∷ ls) l follow = last_follows (Some x.id) ls l follow.1

pub last_link : (ls : List ChainLink) (l : ChainLink) → IsChain (ls ++ l ∷ []) → (l.prev ≡ last_of (link_ids ls)) × (version_among (link_ids ls) l.id ≡ None)
last_link ls l chain = (last_follows None ls l chain.follow ∙ sym (last_is (link_ids ls)), new_behind (link_ids ls) l.id (subst AllDiffer (link_ids-push ls l) chain.differ))

-- the last patch of a chain goes behind the others
pub record IsLast (patches : List Patch) (patch : Patch) : Type 0 where
  pub chain : IsChain (links_of patches)
  pub follows : patch.prev ≡ last_id patches
  pub new : version_of patches patch.id ≡ None

pub links-front : (patches : List Patch) (patch : Patch) → IsChain (links_of (patches ++ patch ∷ [])) → IsLast patches patch
links-front patches patch chain =
    let ls = links_of patches in
    let last = link_to patch in
    let whole : IsChain (ls ++ last ∷ []) = subst IsChain (map-append link_to patches (patch ∷ [])) chain in
    let behind = last_link ls last whole in
    record {
      chain = subst IsChain (take_at ls (last ∷ []) (length ls) refl) (chain-take (ls ++ last ∷ []) (length ls) whole);
      follows = behind.0 ∙ ap last_of (same_ids patches);
      new = ap (λ (ids : List Id). version_among ids patch.id) (sym (same_ids patches)) ∙ behind.1;
    }

-- ---- entries

short_entries : (entries : List Entry) → AllByRecursion (λ (patch : Patch). length patch.text ≤ PATCH_LIMIT) (patches_of entries) → AllByRecursion (λ (entry : Entry). length entry.patch.text ≤ PATCH_LIMIT) entries
short_entries [] short = tt
short_entries (entry ∷ entries) short = (short.0, short_entries entries short.1)

-- entries whose patches are a chain
pub entries_kept : (entries : List Entry) → IsChain (links_of (patches_of entries)) → length entries < 2 ^ 32 → AllByRecursion (λ (patch : Patch). length patch.text ≤ PATCH_LIMIT) (patches_of entries) → IsBoundedChain entries
entries_kept entries chain few short = record { chain = subst IsChain (links_of-entries entries) chain; few = few; short = short_entries entries short }
