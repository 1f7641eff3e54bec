-- Which calls of a pass are legal, as relations over what the pass knew before the call, what it
-- was told, and what it knows behind it. A pass knows the patches taken since the zone was shared.
use Rattle.std.specs.Prelude.{◌≡◌, ◌⊎◌, ℕ, ◌+◌, ◌<◌, ◌≤◌, [], ◌∷◌, ◌++◌, length, map}
use Rattle.std.specs.List.{filter}
use Rattle.delta_base.specs.Outside.{Rose}
use Rattle.log_base.specs.declared.limits.LogLimits.{LogLimits}
use Rattle.log_base.specs.declared.log_info.LogInfo.{LogInfo}
use Rattle.rdf_terms.specs.Line.{line}
use Rattle.patch_meaning.specs.Checked.{CheckedPatch}
use Rattle.patch_log.specs.Log.{bare}
use Rattle.dataset_tx.specs.Pattern.{matches}
use Rattle.dataset_tx.specs.declared.pattern.Pattern.{Pattern}
use Rattle.checkpoint_text.specs.Brief.{Brief}
use Rattle.zone_state.specs.declared.answer.TakeAnswer.{TakeAnswer}
use Rattle.zone_state.specs.declared.answer.TakeAnswer.TheVariants as answers
use Rattle.zone_state.specs.Taking.{taking}
use Rattle.turn_cell.specs.Knowing.{SeesOn, IsQuiet, Brought, Wants}
use Rattle.turn_cell.specs.Knowing.{seen_of, mine_of, failed_of, own_faults_of}
use Rattle.shared_zone.specs.declared.answers.Shown.{Shown}
use Rattle.shared_zone.specs.declared.answers.Stayed.{Stayed}
use Rattle.shared_zone.specs.declared.answers.Stayed.TheVariants.{Ahead, Asked}
use Rattle.shared_zone.specs.History.{ZoneSight, brief_known, brief_seen, version_seen, head_seen}

module _ (base : Brief) where
  -- ---- what is read

  -- the lines of the quads that match, of what the base became by the patches that the pass then
  -- knows, and the number of all its patches
  abbrev pub Shows : Pattern → Shown → ZoneSight → Type 0
  Shows pattern shown q =
      (shown.version ≡ version_seen base q)
      × (shown.lines ≡ map line (filter (matches pattern) (brief_seen base q).contents.quads))

  -- how many patches the pass then knows, and the id of the last one
  abbrev pub Describes : LogInfo → ZoneSight → Type 0
  Describes info q = (info.version ≡ version_seen base q) × (info.head ≡ head_seen base q)

  -- a pass reads at one moment, and does nothing else
  abbrev pub LegalRead : Pattern → ZoneSight → Shown → ZoneSight → Type 0
  LegalRead pattern p shown q = Wants p q × Shows pattern shown q

  abbrev pub LegalDescribe : ZoneSight → LogInfo → ZoneSight → Type 0
  LegalDescribe p info q = Wants p q × Describes info q

  abbrev pub LegalVersion : ZoneSight → ℕ → ZoneSight → Type 0
  LegalVersion p version q = Wants p q × (version ≡ version_seen base q)

  -- ---- what is taken

  module _ (limits : LogLimits) where
    -- what a zone that keeps this makes of a patch
    abbrev pub decided_of : Brief → CheckedPatch → TakeAnswer
    decided_of brief patch = taking brief.ids brief.bytes (bare patch) limits

    -- the zone that the pass then knows would take the patch
    abbrev pub IsNextSeen : CheckedPatch → ZoneSight → Type 0
    IsNextSeen patch q =
        (version : ℕ) × (decided_of (brief_seen base q) patch ≡ answers.Applied version)

    -- the patch may be left as a doubt
    abbrev pub MayLeavePatch : CheckedPatch → ZoneSight → ZoneSight → Type 0
    MayLeavePatch patch p q =
        (failed_of q ≡ failed_of p) ⊎ (failed_of q ≡ failed_of p ++ bare patch ∷ [])

    -- an answer of the zone to a patch, by a zone that had so many before it
    abbrev pub IsTakenSo : CheckedPatch → ℕ → TakeAnswer → ZoneSight → ZoneSight → Type 0
    -- the pass has brought it, behind patches by which it was the next one
    IsTakenSo patch had (answers.Applied version) p q =
        (brought : Brought patch (length (seen_of q)) p q)
        × (decided_of (brief_known base brought.before) patch ≡ answers.Applied version)
        × (version ≡ version_seen base q) × (version ≡ had + 1)
    -- a disk failed in this pass's own stay
    IsTakenSo patch had answers.DiskFault p q =
        IsNextSeen patch q × (had ≡ version_seen base q)
        × Rose (own_faults_of p) (own_faults_of q) × (mine_of q ≡ mine_of p)
        × MayLeavePatch patch p q
    IsTakenSo patch had answers.TermsFull p q =
        IsNextSeen patch q × (had ≡ version_seen base q) × IsQuiet p q
    IsTakenSo patch had answers.OutOfMemory p q =
        IsNextSeen patch q × (had ≡ version_seen base q) × IsQuiet p q
    -- the zone that the pass then knows refuses it
    IsTakenSo patch had refused p q =
        (decided_of (brief_seen base q) patch ≡ refused) × (had ≡ version_seen base q)
        × IsQuiet p q

    -- What a pass is told that had the patch of a version: the zone had that version already, and
    -- was left as it was; or it had fewer, and answered.
    abbrev pub IsStay : CheckedPatch → ℕ → Stayed → ZoneSight → ZoneSight → Type 0
    IsStay patch version (Ahead found) p q =
        (version ≤ found) × (found ≡ version_seen base q) × IsQuiet p q
    IsStay patch version (Asked had answer) p q =
        (had < version) × IsTakenSo patch had answer p q

    abbrev pub LegalStay : CheckedPatch → ℕ → ZoneSight → Stayed → ZoneSight → Type 0
    LegalStay patch version p stayed q = SeesOn p q × IsStay patch version stayed p q
