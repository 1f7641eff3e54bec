-- What `squash` and `invert` keep.
use Rattle.std.specs.Prelude.{◌≡◌, ℕ, ◌<◌, ◌≤◌, List, [], ◌∷◌, Some}
use Rattle.chain_core.specs.Links.{IsChain}
use Rattle.delta_base.specs.declared.id.Id.{Id}
use Rattle.patch_algebra.specs.Patches.{net_patch_of}
use Rattle.patch_algebra.specs.Written.{patch_in_block}
use Rattle.patch_meaning.specs.Checked.{AreChecked, CheckedPatch, meanings}
use Rattle.patch_meaning.specs.Replay.{links_said, replay}
use Rattle.stream_squash.specs.Squashes.{HasSquashed, IsInverse, squashed}

-- each text is that patch by itself, they are a chain, and they make the same dataset
pub record IsSameChain (ps qs : List CheckedPatch) : Type 0 where
  pub checked : AreChecked qs
  pub chain : IsChain (links_said (meanings qs))
  pub replay_is : replay (meanings qs) ≡ replay (meanings ps)

-- a squash keeps the dataset of its stream
abbrev pub SquashesKeepDatasets : Type 0
SquashesKeepDatasets = (from to : ℕ) (text result : List ℕ) → 0 < from → from ≤ to
    → (s : HasSquashed from to text result)
    → IsSameChain s.patches (squashed from to s.net s.patches)

-- the last patch and its inverse behind it come to nothing
abbrev pub InversesAreSquashed : Type 0
InversesAreSquashed = (id : Id) (text : List ℕ) (p : CheckedPatch) → (i : IsInverse id text p)
    → net_patch_of (replay (meanings i.before)) (meanings (i.last ∷ p ∷ []))
    ≡ Some (patch_in_block id i.last.meaning.prev [])
