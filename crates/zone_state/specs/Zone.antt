-- What a zone is, and what its disk holds.
use Rattle.std.specs.Prelude.{◌≡◌, ℕ, List, Option, Some, None, map}
use Rattle.std.specs.Option.{option_map}
use Rattle.log_base.specs.OneMore.{with_one_more}
use Rattle.rdf_terms.specs.declared.term.Term.{Term}
use Rattle.disk_model.specs.Past.{Past}
use Rattle.log_journal.specs.Journal.{HoldsAll, InDoubt}
use Rattle.log_base.specs.declared.limits.LogLimits.{LogLimits}
use Rattle.chain_core.specs.declared.chain.Patch.{Patch}
use Rattle.chain_core.specs.Log.{IsLog, LogPoint, up}
use Rattle.patch_meaning.specs.Checked.{CheckedPatch, AreChecked, checked_texts}
use Rattle.patch_log.specs.Log.{bare}
use Rattle.zone_state.specs.declared.file.TheConstants.{ZONE_NUMBER}
use Rattle.zone_state.specs.Brief.{Brief, brief_of, file_length}

-- the number of a zone's file
abbrev pub zone_number : ℕ
zone_number = ZONE_NUMBER

-- what is kept of the patches taken; terms that its dataset has met; the patch whose gate may stand
-- open, if there is one; the limits; and the disk
pub record ZoneView (D : Type 0) : Type 0 where
  pub brief : Brief
  pub terms : List Term
  pub doubt : Option CheckedPatch
  pub limits : LogLimits
  pub disk : D

-- patches that their texts are, and a chain within the limits
pub record AreTakenPatches (limits : LogLimits) (taken : List CheckedPatch) : Type 0 where
  pub checked : AreChecked taken
  pub log : IsLog limits (map bare taken)

-- in every image stand the texts taken, and the one in doubt stands behind them
abbrev pub DiskHolds : Past → ℕ → List CheckedPatch → Option CheckedPatch → Type 0
DiskHolds past end taken None = HoldsAll past end zone_number (checked_texts taken)
DiskHolds past end taken (Some doubt) =
    InDoubt past end zone_number (checked_texts taken) doubt.text

-- A zone stands for the patches that it took, and for the one whose gate may stand open. Of a disk
-- that tells nothing, nothing is said.
pub record StandsForZone {D : Type 0} (tells : Type 0) (past : Past) (zone : ZoneView D)
    (taken : List CheckedPatch) (doubt : Option CheckedPatch) : Type 0 where
  pub brief_is : zone.brief ≡ brief_of taken
  pub doubt_is : zone.doubt ≡ doubt
  pub without : AreTakenPatches zone.limits taken
  pub having : AreTakenPatches zone.limits (with_one_more taken doubt)
  pub on_disk : tells → DiskHolds past (file_length zone.brief.ids zone.brief.bytes) taken doubt

abbrev pub doubt_of : Option CheckedPatch → Option Patch
doubt_of doubt = option_map bare doubt

-- the zone as a log that runs
abbrev pub zone_point : List CheckedPatch → Option CheckedPatch → LogPoint Patch
zone_point taken doubt = up (map bare taken) (doubt_of doubt)

-- the text in doubt
abbrev pub text_in : Option CheckedPatch → Option (List ℕ)
text_in doubt = option_map (λ patch. patch.text) doubt
