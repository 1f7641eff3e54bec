-- What `squash` and `invert` make of a stream.
use Rattle.std.specs.Prelude.{◌≡◌, ℕ, ◌-◌, ◌≤◌, List, [], ◌∷◌, ◌++◌, Some, take, drop, length}
use Rattle.std.specs.List.{flat_map}
use Rattle.chain_core.specs.Links.{IsChain}
use Rattle.delta_base.specs.declared.id.Id.{Id}
use Rattle.patch_algebra.specs.Patches.{inverse_of, net_patch_of}
use Rattle.patch_meaning.specs.Checked.{CheckedPatch, meanings}
use Rattle.patch_meaning.specs.Patch.{IsPatch}
use Rattle.patch_meaning.specs.Replay.{links_said, replay}
use Rattle.patch_meaning.specs.Stream.{IsSplit}

-- the texts of patches, one behind another
abbrev pub joined : List CheckedPatch → List ℕ
joined ps = flat_map (λ p. p.text) ps

-- the text is a stream of these patches, and they are a chain
pub record IsChained (text : List ℕ) (ps : List CheckedPatch) : Type 0 where
  pub split : IsSplit text ps
  pub chain : IsChain (links_said (meanings ps))

-- The text is a chain of patches, of which there are so many, and this is the net patch of those
-- from one version to another, counted from 1, against the replay of those before.
pub record HasNet (from to : ℕ) (text : List ℕ) (ps : List CheckedPatch)
    (net : CheckedPatch) : Type 0 where
  pub chained : IsChained text ps
  pub enough : to ≤ length ps
  pub net_is : Some net ≡ net_patch_of (replay (meanings (take (from - 1) ps)))
      (meanings (drop (from - 1) (take to ps)))

-- these patches with one in the place of those from one version to another
abbrev pub squashed : ℕ → ℕ → CheckedPatch → List CheckedPatch → List CheckedPatch
squashed from to net ps = take (from - 1) ps ++ net ∷ drop to ps

-- the text is a chain of patches, and the result has their texts as they were, but in the place of
-- those from one version to another that of their net patch
pub record HasSquashed (from to : ℕ) (text result : List ℕ) : Type 0 where
  pub patches : List CheckedPatch
  pub net : CheckedPatch
  pub has : HasNet from to text patches net
  pub is_patch : IsPatch net.text net.meaning
  pub result_is : result ≡ joined (squashed from to net patches)

-- The text is a chain of patches, and this one is the patch of an id that undoes what the last one
-- does to the dataset of those before. It goes on the chain.
pub record IsInverse (id : Id) (text : List ℕ) (p : CheckedPatch) : Type 0 where
  pub before : List CheckedPatch
  pub last : CheckedPatch
  pub split : IsSplit text (before ++ last ∷ [])
  pub chain : IsChain (links_said (meanings (before ++ (last ∷ p ∷ []))))
  pub inverse_is : p ≡ inverse_of (replay (meanings before)) last.meaning id
