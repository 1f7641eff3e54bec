-- What a log is, and what its disk holds.
use Rattle.std.specs.Prelude.{◌≡◌, ℕ, ◌+◌, ◌<◌, ◌≤◌, List, length, map, take, Option, Some, None}
use Rattle.std.specs.List.{AllByRecursion}
use Rattle.std.specs.Option.{option_map}
use Rattle.rdf_terms.specs.declared.change.Change.{Change}
use Rattle.disk_model.specs.Past.{Past, EveryImage}
use Rattle.log_journal.specs.File.{Holds}
use Rattle.log_journal.specs.Journal.{HoldsWithOrWithout}
use Rattle.patch_meaning.specs.Checked.{CheckedPatch}
use Rattle.patch_meaning.specs.Patch.{IsPatch}
use Rattle.patch_meaning.specs.Stream.{IsSplit}
use Rattle.log_base.specs.OneMore.{with_one_more}
use Rattle.log_base.specs.declared.limits.LogLimits.{LogLimits}
use Rattle.log_base.specs.declared.limits.TheConstants.{PATCH_LIMIT}
use Rattle.chain_core.specs.declared.chain.Patch.{Patch}
use Rattle.chain_core.specs.Links.{IsChain}
use Rattle.chain_core.specs.Patches.{links_of}
use Rattle.chain_core.specs.Runs.{IsRun, patches_in, run_text, run_texts}
use Rattle.chain_core.specs.Log.{IsLog}

-- a patch that was checked, without its changes
abbrev pub bare : CheckedPatch → Patch
bare checked = record { id = checked.meaning.id; prev = checked.meaning.prev; text = checked.text }

-- the text is a stream of these patches, which are a run
pub record IsRunOf (text : List ℕ) (patches : List CheckedPatch) : Type 0 where
  pub short : length text ≤ PATCH_LIMIT
  pub split : IsSplit text patches
  pub run : IsRun (map bare patches)

-- what a journal holds of a log: a payload for each run, its text
abbrev pub payloads_of : List (List Patch) → List (List ℕ)
payloads_of runs = run_texts runs

-- the payload of a run in doubt
abbrev pub run_payload : Option (List Patch) → Option (List ℕ)
run_payload doubt = option_map run_text doubt

-- a patch's id and previous id are those that its text names
abbrev pub IsSound : Patch → Type 0
IsSound patch = (changes : List Change)
    × IsPatch patch.text (record { id = patch.id; prev = patch.prev; changes = changes })

-- a run is the one that its text is
pub record IsSoundRun (run : List Patch) : Type 0 where
  pub patches : List CheckedPatch
  pub bare_is : map bare patches ≡ run
  pub read : IsRunOf (run_text run) patches

-- a log each run of which is the one that its text is
pub record IsSoundLog (limits : LogLimits) (runs : List (List Patch)) : Type 0 where
  pub log : IsLog limits (patches_in runs)
  pub sound : AllByRecursion IsSoundRun runs

-- an image holds the runs, or these and the one in doubt
abbrev pub MayHoldChain : ℕ → List (List Patch) → Option (List Patch) → List ℕ → Type 0
MayHoldChain number runs None image = Holds image number (payloads_of runs)
MayHoldChain number runs (Some doubt) image =
    HoldsWithOrWithout number (payloads_of runs) (run_text doubt) image

-- a disk stands for a log that runs, with its runs and the one in doubt
pub record StandsForLog (past : Past) (number : ℕ) (limits : LogLimits) (runs : List (List Patch))
    (doubt : Option (List Patch)) : Type 0 where
  pub each : EveryImage past (MayHoldChain number runs doubt)
  pub without : IsSoundLog limits runs
  pub having : IsSoundLog limits (with_one_more runs doubt)

-- texts are those of runs whose patches are a chain, of which there are no more than there may be
pub record AreChained (most : ℕ) (texts : List (List ℕ)) : Type 0 where
  pub runs : List (List Patch)
  pub texts_are : payloads_of runs ≡ texts
  pub sound : AllByRecursion IsSoundRun runs
  pub chain : IsChain (links_of (patches_in runs))
  pub few : length (patches_in runs) ≤ most

-- The first payloads are runs of a chain; the next one isn't a run that continues it. The version
-- is the one that its first patch would have.
pub record BreaksBehind (most : ℕ) (texts : List (List ℕ)) (version : ℕ) : Type 0 where
  pub count : ℕ
  pub runs : List (List Patch)
  pub version_is : version ≡ length (patches_in runs) + 1
  pub within : count < length texts
  pub texts_are : payloads_of runs ≡ take count texts
  pub sound : AllByRecursion IsSoundRun runs
  pub chain : IsChain (links_of (patches_in runs))
  pub few : length (patches_in runs) ≤ most
  pub broken : AreChained most (take (count + 1) texts) → ⊥
