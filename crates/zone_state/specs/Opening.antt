-- What is kept while the payloads of a zone's journal are read.
use Rattle.std.specs.Prelude.{◌≡◌, ℕ, ◌+◌, ◌-◌, ◌^◌, ◌<◌, min, true, false, List, [], ◌∷◌, ◌++◌}
use Rattle.std.specs.Prelude.{length, map}
use Rattle.rdf_terms.specs.declared.change.Change.{Change}
use Rattle.rdf_terms.specs.Dataset.{apply}
use Rattle.term_table.specs.Table.{most}
use Rattle.dataset_tx.specs.Held.{AreMet, AreMore}
use Rattle.chain_core.specs.Breaks.{BreaksAt}
use Rattle.patch_meaning.specs.Checked.{CheckedPatch}
use Rattle.zone_state.specs.Log.{AreChained}
use Rattle.zone_state.specs.declared.opening.Reading.{Reading}
use Rattle.zone_state.specs.Brief.{brief_of, id_taken, changes_taken}
use Rattle.zone_state.specs.Next.{AreFoundPatches}
use Rattle.zone_state.specs.State.{brief_in}

-- these patches were read; the dataset is theirs unless they have too many terms
pub record HasReadZone (reading : Reading) (taken : List CheckedPatch) : Type 0 where
  pub ids_are : reading.kept.ids.items ≡ map id_taken taken
  pub bytes_are : reading.kept.bytes ≡ (brief_of taken).bytes
  pub whole : reading.full ≡ false → brief_in reading.kept ≡ brief_of taken
  pub met : reading.full ≡ false → AreMet (changes_taken taken) [] reading.kept.contents.terms
  pub overflow : reading.full ≡ true → AreMore most (changes_taken taken) []

-- the changes were applied, or have too many terms, or those before had
pub record MeetsMore (old new : Reading) (changes : List Change) : Type 0 where
  pub stays_full : old.full ≡ true → new.full ≡ true
  pub applied : new.full ≡ false
      → (new.kept.contents.contents ≡ apply changes old.kept.contents.contents)
      × AreMet changes old.kept.contents.terms new.kept.contents.terms
  pub overflow : old.full ≡ false → new.full ≡ true
      → AreMore most changes old.kept.contents.terms

-- The patch is counted, and its changes are made unless there are too many terms. The number of
-- bytes stops at the last one of 64 bits.
pub record AddsPatch (old new : Reading) (patch : CheckedPatch) : Type 0 where
  pub ids_are : new.kept.ids.items ≡ old.kept.ids.items ++ patch.meaning.id ∷ []
  pub few : length new.kept.ids.items < 2 ^ 32
  pub bytes_are : new.kept.bytes ≡ min (old.kept.bytes + length patch.text) (2 ^ 64 - 1)
  pub meets : MeetsMore old new patch.meaning.changes

-- the payloads are those of patches that were read, or break off behind these
pub record HasReceived (first : Reading) (payloads : List (List ℕ))
    (reading : Reading) : Type 0 where
  pub most_is : reading.most ≡ first.most
  pub found : reading.broken ≡ false → (taken : List CheckedPatch)
      × AreFoundPatches payloads first.most taken × HasReadZone reading taken
  pub breaks : reading.broken ≡ true
      → BreaksAt (AreChained first.most) payloads (length reading.kept.ids.items + 1)
