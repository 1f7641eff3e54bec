-- The patches of a zone as a log, and what its file holds of them.
use Rattle.std.specs.Prelude.{◌≡◌, ℕ, ◌≤◌, List, length, Option, Some, None}
use Rattle.std.specs.List.{AllByRecursion}
use Rattle.std.specs.Option.{option_map}
use Rattle.disk_model.specs.Past.{Past, EveryImage}
use Rattle.log_journal.specs.File.{Holds}
use Rattle.log_journal.specs.Journal.{HoldsWithOrWithout}
use Rattle.patch_log.specs.Log.{IsSound}
use Rattle.log_base.specs.declared.limits.LogLimits.{LogLimits}
use Rattle.log_base.specs.OneMore.{with_one_more}
use Rattle.chain_core.specs.declared.chain.Patch.{Patch}
use Rattle.chain_core.specs.Links.{IsChain}
use Rattle.chain_core.specs.Patches.{links_of, texts_of}
use Rattle.chain_core.specs.Log.{IsLog}

-- the payload of a patch in doubt
abbrev pub patch_payload : Option Patch → Option (List ℕ)
patch_payload doubt = option_map (λ patch. patch.text) doubt

-- a log each patch of which is the one that its text is
pub record IsSoundZoneLog (limits : LogLimits) (patches : List Patch) : Type 0 where
  pub log : IsLog limits patches
  pub sound : AllByRecursion IsSound patches

-- an image holds the chain, or the chain with the patch in doubt
abbrev pub MayHoldPatches : ℕ → List Patch → Option Patch → List ℕ → Type 0
MayHoldPatches number chain None image = Holds image number (texts_of chain)
MayHoldPatches number chain (Some doubt) image =
    HoldsWithOrWithout number (texts_of chain) doubt.text image

-- a disk stands for a zone's log that runs, with its chain and the patch in doubt
pub record StandsForZoneFile (past : Past) (number : ℕ) (limits : LogLimits) (chain : List Patch)
    (doubt : Option Patch) : Type 0 where
  pub each : EveryImage past (MayHoldPatches number chain doubt)
  pub without : IsSoundZoneLog limits chain
  pub having : IsSoundZoneLog limits (with_one_more chain doubt)

-- texts are those of a chain of patches, of which there are no more than there may be
pub record AreChained (most : ℕ) (texts : List (List ℕ)) : Type 0 where
  pub patches : List Patch
  pub texts_are : texts_of patches ≡ texts
  pub sound : AllByRecursion IsSound patches
  pub chain : IsChain (links_of patches)
  pub few : length texts ≤ most
