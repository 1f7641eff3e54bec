-- A zone on two files: what their payloads stand for, and what its disks hold.
use Rattle.std.specs.Prelude.{◌≡◌, ◌⊎◌, ℕ, ◌+◌, ◌≤◌, Bool, false, not, List, [], ◌∷◌, ◌++◌}
use Rattle.std.specs.Prelude.{length, Option, Some, None}
use Rattle.log_base.specs.Journals.{payloads_length}
use Rattle.log_base.specs.declared.limits.LogLimits.{LogLimits}
use Rattle.disk_model.specs.Past.{Past, EveryImage}
use Rattle.log_journal.specs.File.{Holds}
use Rattle.log_journal.specs.Journal.{HoldsAll, InDoubt}
use Rattle.patch_meaning.specs.Checked.{CheckedPatch, AreChecked, checked_texts}
use Rattle.patch_meaning.specs.Patch.{IsPatch}
use Rattle.checkpoint_text.specs.Brief.{Brief, empty_brief, file_length}
use Rattle.chain_core.specs.Ids.{last_of, version_among}
use Rattle.checkpoint_text.specs.Text.{checkpoint, IsCheckpoint}
use Rattle.zone_files.specs.Generation.{number_of}
use Rattle.zone_files.specs.Pair.{HoldTogether, HoldByRole, IsBehind}
use Rattle.zone_pairs.specs.Briefs.{with_patch}

-- ---- patches behind a brief

-- the patch goes behind those of the brief
pub record Fits (brief : Brief) (patch : CheckedPatch) : Type 0 where
  pub follows : patch.meaning.prev ≡ last_of brief.ids
  pub new : version_among brief.ids patch.meaning.id ≡ None

-- each patch fits the brief before it, and they take the one brief to the other
abbrev pub TakeTo : Brief → List CheckedPatch → Brief → Type 0
TakeTo before [] after = after ≡ before
TakeTo before (patch ∷ patches) after =
    Fits before patch × TakeTo (with_patch before patch) patches after

-- ---- the payloads of a current file

-- the brief of the checkpoint, or of no patches where there is none
abbrev pub start_brief : Option Brief → Brief
start_brief None = empty_brief
start_brief (Some start) = start

-- a checkpoint of this generation; in generation 0 there may be none
abbrev pub IsStart : ℕ → Option Brief → Type 0
IsStart generation None = generation ≡ 0
IsStart generation (Some start) = IsCheckpoint (checkpoint generation start) generation start

abbrev pub start_texts : ℕ → Option Brief → List (List ℕ)
start_texts generation None = []
start_texts generation (Some start) = checkpoint generation start ∷ []

-- the checkpoint, and the texts of the patches behind it
abbrev pub current_payloads : ℕ → Option Brief → List CheckedPatch → List (List ℕ)
current_payloads generation start patches =
    start_texts generation start ++ checked_texts patches

-- the payloads of a file in this generation stand for this brief
pub record StandFor (generation : ℕ) (payloads : List (List ℕ)) (brief : Brief) : Type 0 where
  pub start : Option Brief
  pub patches : List CheckedPatch
  pub payloads_are : payloads ≡ current_payloads generation start patches
  pub start_is : IsStart generation start
  pub checked : AreChecked patches
  pub take : TakeTo (start_brief start) patches brief

-- two images are those of a zone with this brief
abbrev pub ZoneHolds : List ℕ → List ℕ → Brief → Type 0
ZoneHolds first second brief = HoldTogether StandFor first second brief

-- the same of the images of the current file and the other
abbrev pub ZoneHoldsByRole : Bool → List ℕ → List ℕ → Brief → Type 0
ZoneHoldsByRole second current other brief = HoldByRole StandFor second current other brief

-- ---- the zone

-- the image of the other file leaves the current one as it is, or holds alone the checkpoint that
-- is next
abbrev pub MayBeBeside : Bool → ℕ → Brief → List ℕ → Type 0
MayBeBeside second generation brief image = IsBehind second generation image
    ⊎ (IsCheckpoint (checkpoint (generation + 1) brief) (generation + 1) brief
    × Holds image (number_of (not second)) (checkpoint (generation + 1) brief ∷ []))

-- in every image stand the payloads, and the one in doubt stands behind them
abbrev pub FileHolds : Past → ℕ → List (List ℕ) → Option CheckedPatch → Type 0
FileHolds past number payloads None = HoldsAll past (payloads_length payloads) number payloads
FileHolds past number payloads (Some doubt) =
    InDoubt past (payloads_length payloads) number payloads doubt.text

-- the patches and their texts are within the limits
pub record IsWithin (limits : LogLimits) (brief : Brief) : Type 0 where
  pub few : length brief.ids ≤ limits.patches
  pub room : file_length brief.ids brief.bytes ≤ limits.bytes

-- the patch in doubt is one that fits, within the limits
abbrev pub MayBeTaken : LogLimits → Brief → Option CheckedPatch → Type 0
MayBeTaken limits brief None = Unit {0}
MayBeTaken limits brief (Some doubt) =
    IsPatch doubt.text doubt.meaning × Fits brief doubt × IsWithin limits (with_patch brief doubt)

-- A zone on two disks: which file is current, in which generation, its checkpoint, the patches
-- behind it and the one whose gate may stand open.
pub record PairPoint : Type 0 where
  pub second : Bool
  pub generation : ℕ
  pub start : Option Brief
  pub patches : List CheckedPatch
  pub doubt : Option CheckedPatch

abbrev pub payloads_at : PairPoint → List (List ℕ)
payloads_at point = current_payloads point.generation point.start point.patches

-- the disks of the current file and the other stand for this point and this brief
pub record StandsForPair (tells : Type 0) (current other : Past) (limits : LogLimits)
    (brief : Brief) (point : PairPoint) : Type 0 where
  pub start_is : IsStart point.generation point.start
  pub in_first : point.start ≡ None → point.second ≡ false
  pub checked : AreChecked point.patches
  pub take : TakeTo (start_brief point.start) point.patches brief
  pub within : IsWithin limits brief
  pub doubtful : MayBeTaken limits brief point.doubt
  pub on_current : tells
      → FileHolds current (number_of point.second) (payloads_at point) point.doubt
  pub on_other : tells → EveryImage other (MayBeBeside point.second point.generation brief)

-- ---- what images hold meanwhile

-- a file's payloads, or these and the one in doubt
abbrev pub MayHoldPayloads : ℕ → List (List ℕ) → Option CheckedPatch → List ℕ → Type 0
MayHoldPayloads number payloads None image = Holds image number payloads
MayHoldPayloads number payloads (Some doubt) image =
    Holds image number payloads ⊎ Holds image number (payloads ++ doubt.text ∷ [])

-- while a patch is taken, an image of the current file holds the payloads, or these and the patch
-- in doubt, or these and the new one
abbrev pub MayHoldTaking : ℕ → List (List ℕ) → Option CheckedPatch → CheckedPatch → List ℕ → Type 0
MayHoldTaking number payloads doubt patch image =
    MayHoldPayloads number payloads doubt image
    ⊎ Holds image number (payloads ++ patch.text ∷ [])

-- the brief, or the one to which one of the patches takes it
abbrev pub IsNextBrief : Brief → Option CheckedPatch → Option CheckedPatch → Brief → Type 0
IsNextBrief brief doubt new next =
    (next ≡ brief) ⊎ (((patch : CheckedPatch)
    × ((doubt ≡ Some patch) ⊎ (new ≡ Some patch)) × (next ≡ with_patch brief patch)))
