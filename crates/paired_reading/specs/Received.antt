-- What is kept while the payloads of the current file are read.
use Rattle.std.specs.Prelude.{◌≡◌, ◌≢◌, ◌⊎◌, ℕ, ◌+◌, ◌-◌, ◌^◌, ◌≤◌, min, true, false, List, [], length}
use Rattle.std.specs.Prelude.{Option, None, Some}
use Rattle.patch_meaning.specs.Checked.{CheckedPatch}
use Rattle.checkpoint_text.specs.Brief.{Brief, file_length}
use Rattle.zone_state.specs.declared.opening.Reading.{Reading}
use Rattle.zone_state.specs.Next.{IsNextPatch}
use Rattle.zone_state.specs.Opening.{AddsPatch}
use Rattle.zone_state.specs.State.{brief_in}
use Rattle.paired_reading.specs.Payloads.{BeginWith, HasNoCheckpoint, AreAllChained}
use Rattle.paired_reading.specs.Payloads.{BreakAtVersion, AreMetFrom, AreMoreFrom}
use Rattle.paired_reading.specs.declared.reading.FoundZone.{FoundZone}
use Rattle.paired_reading.specs.declared.reading.PairReading.{PairReading}

-- The ids are those of the brief, and so is the number of bytes up to the last one of 64 bits. The
-- dataset is the brief's unless the patches have too many terms.
pub record IsKeptOf (reading : Reading) (start : Option Brief) (patches : List CheckedPatch)
    (brief : Brief) : Type 0 where
  pub ids_are : reading.kept.ids.items ≡ brief.ids
  pub bytes_are : reading.kept.bytes ≡ min brief.bytes (2 ^ 64 - 1)
  pub whole : reading.full ≡ false → reading.kept.contents.contents ≡ brief.contents
  pub met : reading.full ≡ false → AreMetFrom start patches reading.kept.contents.terms
  pub overflow : reading.full ≡ true → AreMoreFrom start patches

-- the generation of the checkpoint, if there is one
abbrev pub shown_by : Option Brief → ℕ → Option ℕ
shown_by None generation = None
shown_by (Some start) generation = Some generation

-- the payloads are a checkpoint or none and the texts of patches, and all of that is kept
pub record HasReadPair (payloads : List (List ℕ)) (most : ℕ) (shown : Option ℕ)
    (reading : Reading) : Type 0 where
  pub generation : ℕ
  pub start : Option Brief
  pub texts : List (List ℕ)
  pub patches : List CheckedPatch
  pub brief : Brief
  pub shown_is : shown ≡ shown_by start generation
  pub begins : BeginWith generation start texts payloads
  pub chained : AreAllChained most start texts patches brief
  pub kept_is : IsKeptOf reading start patches brief

-- behind the ids that are kept the chain breaks
pub record HasBrokenOff (payloads : List (List ℕ)) (most : ℕ) (reading : Reading) : Type 0 where
  pub generation : ℕ
  pub start : Option Brief
  pub texts : List (List ℕ)
  pub begins : BeginWith generation start texts payloads
  pub breaks : BreakAtVersion most start texts (length reading.kept.ids.items + 1)

pub record HasReceivedPair (first : PairReading) (payloads : List (List ℕ))
    (reading : PairReading) : Type 0 where
  pub most_is : reading.reading.most ≡ first.reading.most
  pub fresh : reading.begins ≡ true → payloads ≡ []
  pub begun : reading.begins ≡ false → payloads ≢ []
  pub no_checkpoint : reading.no_checkpoint ≡ true → HasNoCheckpoint payloads
  pub found : reading.no_checkpoint ≡ false → reading.reading.broken ≡ false
      → HasReadPair payloads first.reading.most reading.generation reading.reading
  pub breaks : reading.no_checkpoint ≡ false → reading.reading.broken ≡ true
      → HasBrokenOff payloads first.reading.most reading.reading

-- the payloads are those of a zone within these limits, of which this is kept
pub record HoldsZone (payloads : List (List ℕ)) (most limit : ℕ) (found : FoundZone)
    : Type 0 where
  pub generation : ℕ
  pub start : Option Brief
  pub texts : List (List ℕ)
  pub patches : List CheckedPatch
  pub shown_is : found.generation ≡ shown_by start generation
  pub begins : BeginWith generation start texts payloads
  pub chained : AreAllChained most start texts patches (brief_in found.kept)
  pub within : file_length found.kept.ids.items found.kept.bytes ≤ limit
  pub met : AreMetFrom start patches found.kept.contents.terms

-- A payload behind those that were read. Behind a chain that breaks nothing more is kept; else it is
-- the next patch, or the chain breaks.
abbrev pub ReadsOn : Reading → Reading → List ℕ → Type 0
ReadsOn old new text =
    ((old.broken ≡ true) × (new ≡ old))
    ⊎ ((old.broken ≡ false) × (new.broken ≡ false) × ((patch : CheckedPatch)
    × IsNextPatch old.kept.ids.items text old.most patch × AddsPatch old new patch))
    ⊎ ((old.broken ≡ false) × (new.broken ≡ true)
    × (new.kept.ids.items ≡ old.kept.ids.items)
    × ((patch : CheckedPatch) → IsNextPatch old.kept.ids.items text old.most patch → ⊥))

pub record GoesOnWith (old new : PairReading) (text : List ℕ) : Type 0 where
  pub reads_on : ReadsOn old.reading new.reading text
  pub most : new.reading.most ≡ old.reading.most
  pub generation : new.generation ≡ old.generation
  pub begins : new.begins ≡ old.begins
  pub checkpoint : new.no_checkpoint ≡ old.no_checkpoint
