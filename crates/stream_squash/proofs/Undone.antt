-- The inverse of the last patch of a chain.
use Rattle.std.proofs.Common.{◌≡◌, ℕ, List, [], ◌∷◌, ◌++◌, map, sym, ap, subst, ◌∙◌}
use Rattle.chain_core.specs.Links.{IsChain}
use Rattle.chain_core.specs.Tested.{IsTested}
use Rattle.delta_base.specs.declared.id.Id.{Id}
use Rattle.log_base.specs.declared.chain_link.ChainLink.{ChainLink}
use Rattle.patch_algebra.specs.Patches.{RefusesWritten, inverse_of}
use Rattle.patch_algebra.specs.declared.fault.NetFault.{NetFault}
use Rattle.patch_algebra.specs.declared.fault.NetFault.TheVariants as nets
use Rattle.patch_meaning.specs.Checked.{CheckedPatch, meanings}
use Rattle.patch_meaning.specs.Replay.{links_said, replay}
use Rattle.patch_meaning.specs.Stream.{IsSplit}
use Rattle.patch_meaning.proofs.Joined.{checked_by_itself, joined}
use Rattle.stream_squash.specs.Faults.{StopsInvert, net_refused}
use Rattle.stream_squash.specs.Links.{next_link}
use Rattle.stream_squash.specs.Pieces.{ArePieces}
use Rattle.stream_squash.specs.Placing.{HasChain}
use Rattle.stream_squash.specs.Squashes.{IsChained, IsInverse}
use Rattle.stream_squash.specs.declared.placing.Chained.{Chained}
use Rattle.stream_squash.proofs.Behind.{goes_on}
use Rattle.stream_squash.proofs.Texts.{Ends, ends, size_of}

-- a chain of patches, of which there is one, has its text of their texts
pub chain_pieces : (text : List ℕ) (ps : List CheckedPatch) (lengths : List ℕ) → IsSplit text ps → lengths ≡ map size_of ps → (ps ≡ [] → ⊥) → ArePieces ps text lengths
chain_pieces text ps lengths split are some = record {
  text_is = sym (joined text ps split some);
  lengths_are = are;
  checked = checked_by_itself text ps split;
}

none_there : (ps : List CheckedPatch) (others : List ℕ) (size : ℕ) → others ++ size ∷ [] ≡ map size_of ps → ps ≡ [] → ⊥
none_there ps [] size are none = let e : size ∷ [] ≡ [] = are ∙ ap (map size_of) none in absurd cc
none_there ps (x ∷ others) size are none = let e : x ∷ (others ++ size ∷ []) ≡ [] = are ∙ ap (map size_of) none in absurd cc

-- the last one of a chain, and those before it
pub last_of_chain : (text : List ℕ) (ps : List CheckedPatch) (c : Chained) (lengths others : List ℕ) (size : ℕ) → lengths ≡ c.lengths.items → lengths ≡ others ++ size ∷ [] → HasChain text ps c → Ends ps text size others
last_of_chain text ps c lengths others size are is chain =
    let sizes : lengths ≡ map size_of ps = are ∙ chain.lengths_are in
    ends ps text lengths others size is (chain_pieces text ps lengths chain.split sizes (none_there ps others size (sym is ∙ sizes)))

pub chained : (text : List ℕ) (ps : List CheckedPatch) (c : Chained) → HasChain text ps c → IsChained text ps
chained text ps c chain = record { split = chain.split; chain = chain.tested.chain }

pub undone : (text : List ℕ) (ps : List CheckedPatch) (c : Chained) (id : Id) (size : ℕ) (others : List ℕ) (p : CheckedPatch) → HasChain text ps c → (e : Ends ps text size others)
    → ((links : List ChainLink) → IsTested links c.chain → IsChain (links ++ next_link links id ∷ [])) → p ≡ inverse_of (replay (meanings e.qs)) e.p.meaning id → IsInverse id text p
undone text ps c id size others p chain e follows is =
    let goes = subst (λ (qs : List CheckedPatch). IsChain (links_said (meanings qs) ++ next_link (links_said (meanings qs)) id ∷ [])) e.patches_are (follows (links_said (meanings ps)) chain.tested) in
    record {
      before = e.qs;
      last = e.p;
      split = subst (IsSplit text) e.patches_are chain.split;
      chain = goes_on e.qs e.p p id (ap (λ (q : CheckedPatch). q.meaning.id) is) (ap (λ (q : CheckedPatch). q.meaning.prev) is) goes;
      inverse_is = is;
    }

pub undone_refused : (text : List ℕ) (id : Id) (p : CheckedPatch) (fault : NetFault) → IsInverse id text p → RefusesWritten p fault → StopsInvert id text (net_refused fault)
undone_refused text id p (nets.TooLong size limit) is refused = record { patch = p; is = is; refuses = refused }
undone_refused text id p nets.OutOfMemory is refused = tt
