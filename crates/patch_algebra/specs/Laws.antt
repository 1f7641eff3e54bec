-- What net patches and inverses promise.
use Rattle.std.specs.Prelude.{◌≡◌, ◌≤◌, ℕ, List, [], ◌∷◌, Option, length}
use Rattle.std.specs.List.{AllByRecursion}
use Rattle.delta_base.specs.declared.id.Id.{Id}
use Rattle.delta_base.specs.Ids.{IsId}
use Rattle.log_base.specs.declared.limits.TheConstants.{PATCH_LIMIT}
use Rattle.net_changes.specs.Net.{in_block, IsPlain}
use Rattle.net_changes.specs.Values.{IsNamedValue, IsDatasetValue}
use Rattle.patch_meaning.specs.Patch.{Meaning, IsPatch, AreOutside}
use Rattle.patch_meaning.specs.Replay.{replay_from}
use Rattle.rdf_terms.specs.Dataset.{Dataset, apply}
use Rattle.rdf_terms.specs.declared.change.Change.{Change}
use Rattle.patch_algebra.specs.Nets.{net, inverse_changes, run_changes}
use Rattle.patch_algebra.specs.Patches.{inverse_of}
use Rattle.patch_algebra.specs.Written.{AreIds, HaveRows, text_in_block}

-- the blocks of a patch are closed, and its changes are of quads and prefixes that rows can have
pub record IsPatchValue (m : Meaning) : Type 0 where
  pub blocks : AreOutside m.changes
  pub named : AllByRecursion IsNamedValue m.changes

-- each patch is one
abbrev pub PatchesAreValues : Type 0
PatchesAreValues = (text : List ℕ) (m : Meaning) → IsPatch text m → IsPatchValue m

-- and its changes have canonical rows
abbrev pub PatchesHaveRows : Type 0
PatchesHaveRows = (text : List ℕ) (m : Meaning) → IsPatch text m → HaveRows m.changes

-- the net changes of a run do what its patches do, one after another
abbrev pub NetsReplay : Type 0
NetsReplay = (d : Dataset) (run : List Meaning) → IsDatasetValue d
    → AllByRecursion IsPatchValue run
    → apply (in_block (net d (run_changes run))) d ≡ replay_from run d

-- no list of changes that does the same is shorter
abbrev pub NetsAreShortest : Type 0
NetsAreShortest = (d : Dataset) (run : List Meaning) (others : List Change) → IsDatasetValue d
    → AllByRecursion IsPatchValue run → apply others d ≡ replay_from run d
    → length (net d (run_changes run)) ≤ length others

-- an inverse leads back
abbrev pub InversesLeadBack : Type 0
InversesLeadBack = (d : Dataset) (m : Meaning) → IsDatasetValue d → IsPatchValue m
    → apply (in_block (inverse_changes d m.changes)) (apply m.changes d) ≡ d

-- a patch and its inverse behind it come to nothing
abbrev pub InversesComeToNothing : Type 0
InversesComeToNothing = (d : Dataset) (m : Meaning) (id : Id) → IsDatasetValue d → IsPatchValue m
    → net d (run_changes (m ∷ (inverse_of d m id).meaning ∷ [])) ≡ []

-- canonical rows in one block are a patch that says this, where the text is within its limit
abbrev pub WrittenAreRead : Type 0
WrittenAreRead = (id : Id) (prev : Option Id) (changes : List Change) → IsId id.0 → AreIds prev
    → AllByRecursion IsPlain changes → HaveRows changes
    → length (text_in_block id prev changes) ≤ PATCH_LIMIT
    → IsPatch (text_in_block id prev changes)
    (record { id = id; prev = prev; changes = in_block changes })
