-- Texts of patches that stand one behind another.
use Rattle.std.specs.Prelude.{◌≡◌, ℕ, List, ◌∷◌, ◌++◌, length, map}
use Rattle.log_base.specs.declared.chain_link.ChainLink.{ChainLink}
use Rattle.patch_algebra.specs.Gathered.{HasGathered}
use Rattle.patch_algebra.specs.Patches.{id_of_last}
use Rattle.patch_algebra.specs.declared.gathering.Gathering.{Gathering}
use Rattle.patch_algebra.specs.declared.gathering.Direction.TheVariants.{Forth}
use Rattle.patch_meaning.specs.Checked.{AreChecked, CheckedPatch, meanings}
use Rattle.patch_meaning.specs.Patch.{Meaning}
use Rattle.patch_meaning.specs.Replay.{replay}
use Rattle.rdf_terms.specs.Dataset.{Dataset}
use Rattle.stream_squash.specs.Squashes.{joined}

-- the text has these patches one behind another, and each has so many bytes
pub record ArePieces (ps : List CheckedPatch) (text lengths : List ℕ) : Type 0 where
  pub text_is : text ≡ joined ps
  pub lengths_are : lengths ≡ map (λ p. length p.text) ps
  pub checked : AreChecked ps

-- there are such patches
abbrev pub HasPieces : List ℕ → List ℕ → Type 0
HasPieces text lengths = (ps : List CheckedPatch) × ArePieces ps text lengths

-- the first of these patches made the dataset, and the others stand in the rest
pub record GoesForth (ps : List CheckedPatch) (rest left : List ℕ) (d : Dataset) : Type 0 where
  pub passed : List CheckedPatch
  pub behind : List CheckedPatch
  pub patches_are : ps ≡ passed ++ behind
  pub pieces : ArePieces behind rest left
  pub contents_are : d ≡ replay (meanings passed)

-- the last of these patches were gathered, and these are the ids of the last one and those of the
-- first one that was gathered; the others stand in the rest
pub record GoesBack (ps : List CheckedPatch) (rest left : List ℕ) (d : Dataset) (g : Gathering)
    (last first : ChainLink) : Type 0 where
  pub before : List CheckedPatch
  pub m : Meaning
  pub ms : List Meaning
  pub pieces : ArePieces before rest left
  pub meanings_are : meanings ps ≡ meanings before ++ m ∷ ms
  pub gathers : HasGathered Forth d (m ∷ ms) g
  pub last_is : last.id ≡ id_of_last m ms
  pub first_is : first.prev ≡ m.prev
