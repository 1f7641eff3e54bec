-- What a text is as a run, and what the payloads of a log's journal are, one after another.
use Rattle.std.specs.Prelude.{◌≡◌, ℕ, ◌+◌, ◌≤◌, List, [], ◌∷◌, length, None}
use Rattle.std.specs.List.{AllByRecursion}
use Rattle.chain_core.specs.declared.chain.Patch.{Patch}
use Rattle.chain_core.specs.declared.chain.Entry.{Entry}
use Rattle.chain_core.specs.Links.{IsChain}
use Rattle.chain_core.specs.Patches.{patches_of, links_of, last_id}
use Rattle.chain_core.specs.Runs.{AreWhole, prev_of_run, run_text, run_texts, runs_of}
use Rattle.chain_core.specs.Decision.{version_known}
use Rattle.patch_meaning.specs.Checked.{CheckedPatch}
use Rattle.patch_meaning.specs.Patch.{IsPatch}
use Rattle.patch_meaning.specs.declared.stream.Linked.{Linked}
use Rattle.patch_log.specs.Log.{IsSoundRun, bare}

-- a patch that was read as its link and its text
abbrev pub patch_linked : Linked → Patch
patch_linked linked =
    record { id = linked.link.id; prev = linked.link.prev; text = linked.text }

-- the run is the one that this text is
pub record IsRunRead (text : List ℕ) (run : List Patch) : Type 0 where
  pub text_is : run_text run ≡ text
  pub sound : IsSoundRun run

-- the run is the one patch that this text is
pub record IsPatchRead (text : List ℕ) (run : List Patch) : Type 0 where
  pub patch : CheckedPatch
  pub run_is : run ≡ bare patch ∷ []
  pub text_is : patch.text ≡ text
  pub is_patch : IsPatch text patch.meaning

-- the run of this text goes behind the patches
pub record IsNextInLog (patches : List Patch) (text : List ℕ) (most : ℕ)
    (run : List Patch) : Type 0 where
  pub read : IsRunRead text run
  pub follows : prev_of_run run ≡ last_id patches
  pub few : length patches + length run ≤ most
  pub new : version_known patches run ≡ None

-- entries brought by no pass, whose runs are those of these texts
pub record AreFoundEntries (texts : List (List ℕ)) (most : ℕ) (entries : List Entry) : Type 0 where
  pub texts_are : run_texts (runs_of entries) ≡ texts
  pub sound : AllByRecursion IsSoundRun (runs_of entries)
  pub whole : AreWhole entries
  pub chain : IsChain (links_of (patches_of entries))
  pub few : length entries ≤ most
  pub by_nobody : AllByRecursion (λ entry. entry.by ≡ 0) entries
