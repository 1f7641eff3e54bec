-- Which payloads are those of the current file of a zone.
use Rattle.std.specs.Prelude.{◌≡◌, ◌⊎◌, ℕ, ◌+◌, ◌-◌, ◌<◌, ◌≤◌, List, [], ◌∷◌, ◌++◌, length, take}
use Rattle.std.specs.Prelude.{Option, Some, None}
use Rattle.delta_base.specs.declared.id.Id.{Id}
use Rattle.log_base.specs.declared.limits.TheConstants.{EMPTY_JOURNAL, PAYLOAD_FRAME}
use Rattle.rdf_terms.specs.declared.term.Term.{Term}
use Rattle.rdf_terms.specs.declared.change.Change.{Change}
use Rattle.rdf_terms.specs.Dataset.{apply, empty}
use Rattle.term_table.specs.Table.{most as most_terms}
use Rattle.dataset_tx.specs.Held.{AreMet, AreMore}
use Rattle.chain_core.specs.Links.{AllDiffer}
use Rattle.patch_meaning.specs.Checked.{CheckedPatch, AreChecked, checked_texts}
use Rattle.checkpoint_text.specs.Brief.{Brief}
use Rattle.checkpoint_text.specs.Text.{checkpoint, IsCheckpoint}
use Rattle.zone_files.specs.Generation.{IsMarked}
use Rattle.zone_pairs.specs.Briefs.{changes_taken}
use Rattle.zone_pairs.specs.Pair.{TakeTo, start_brief}
use Rattle.paired_reading.specs.declared.limit.TheConstants.{CHECKPOINT_FILE_LIMIT}

-- ---- the checkpoint

-- how long a file is that holds this payload alone
abbrev pub alone_length : List ℕ → ℕ
alone_length payload = EMPTY_JOURNAL + PAYLOAD_FRAME + length payload

-- the first one doesn't begin as a checkpoint
abbrev pub AreUnmarked : List (List ℕ) → Type 0
AreUnmarked [] = Unit {0}
AreUnmarked (payload ∷ payloads) = IsMarked payload → ⊥

-- the payloads are a checkpoint that isn't too long and these texts behind it; or in generation 0
-- the texts alone
abbrev pub BeginWith : ℕ → Option Brief → List (List ℕ) → List (List ℕ) → Type 0
BeginWith generation None texts payloads =
    (generation ≡ 0) × AreUnmarked payloads × (payloads ≡ texts)
BeginWith generation (Some start) texts payloads =
    IsCheckpoint (checkpoint generation start) generation start
    × (alone_length (checkpoint generation start) ≤ CHECKPOINT_FILE_LIMIT)
    × (payloads ≡ checkpoint generation start ∷ texts)

-- the first one begins as a checkpoint, and is none or too long for one
pub record HasNoCheckpoint (payloads : List (List ℕ)) : Type 0 where
  pub payload : List ℕ
  pub texts : List (List ℕ)
  pub payloads_are : payloads ≡ payload ∷ texts
  pub marked : IsMarked payload
  pub none : ((generation : ℕ) (start : Brief) → IsCheckpoint payload generation start → ⊥)
      ⊎ (CHECKPOINT_FILE_LIMIT < alone_length payload)

-- ---- the patches

-- ids that differ, and no more than so many
abbrev pub AreNew : ℕ → List Id → Type 0
AreNew most ids = AllDiffer ids × (length ids ≤ most)

-- the texts are those of patches that take the checkpoint's brief to this one. With those of the
-- checkpoint there are no more than so many
pub record AreAllChained (most : ℕ) (start : Option Brief) (texts : List (List ℕ))
    (patches : List CheckedPatch) (brief : Brief) : Type 0 where
  pub texts_are : checked_texts patches ≡ texts
  pub checked : AreChecked patches
  pub differ : AllDiffer (start_brief start).ids
  pub take_to : TakeTo (start_brief start) patches brief
  pub few : length brief.ids ≤ most

-- the first so many patches, those of the checkpoint first, are a chain, and not too many
pub record AreChainedTo (most : ℕ) (start : Option Brief) (texts : List (List ℕ))
    (version : ℕ) : Type 0 where
  pub few : version ≤ most
  pub differ : AllDiffer (take version (start_brief start).ids)
  pub patches : List CheckedPatch
  pub brief : Brief
  pub texts_are : checked_texts patches ≡ take (version - length (start_brief start).ids) texts
  pub checked : AreChecked patches
  pub take_to : TakeTo (start_brief start) patches brief

-- so many are none, and fewer are one
pub record BreakAtVersion (most : ℕ) (start : Option Brief) (texts : List (List ℕ))
    (version : ℕ) : Type 0 where
  pub within : version ≤ length (start_brief start).ids + length texts
  pub so_before : (fewer : ℕ) → fewer < version → AreChainedTo most start texts fewer
  pub broken : AreChainedTo most start texts version → ⊥

-- ---- the terms

-- each of the terms is one of changes that make the checkpoint's dataset, or of the patches
abbrev pub AreMetFrom : Option Brief → List CheckedPatch → List Term → Type 0
AreMetFrom start patches terms =
    (changes : List Change) × (apply changes empty ≡ (start_brief start).contents)
    × AreMet (changes ++ changes_taken patches) [] terms

-- those terms are more than there are numbers
abbrev pub AreMoreFrom : Option Brief → List CheckedPatch → Type 0
AreMoreFrom start patches =
    (changes : List Change) × (apply changes empty ≡ (start_brief start).contents)
    × AreMore most_terms (changes ++ changes_taken patches) []
