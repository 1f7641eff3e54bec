-- One taking as a stay of the zone.
use Rattle.std.specs.Prelude.{◌≡◌, ◌≢◌, ◌⊎◌, ℕ, List, Option, Some, None, map}
use Rattle.disk_model.specs.declared.disk.Disk.{Ghosts}
use Rattle.log_base.specs.declared.phase.Phase.{Phase}
use Rattle.log_journal.specs.Writing.{doubt_left}
use Rattle.log_journal.specs.Written.{Written}
use Rattle.chain_core.specs.declared.fate.Fate.{Fate}
use Rattle.chain_core.specs.Stay.{fate_of}
use Rattle.patch_meaning.specs.Checked.{CheckedPatch, checked_texts}
use Rattle.patch_log.specs.Log.{bare}
use Rattle.zone_state.specs.declared.answer.TakeAnswer.{TakeAnswer}
use Rattle.zone_state.specs.declared.answer.TakeAnswer.TheVariants.{Applied, DiskFault}
use Rattle.zone_state.specs.Taking.{taking, taken_then, TakeStay}
use Rattle.zone_state.specs.Zone.{ZoneView, StandsForZone, zone_number, doubt_of, text_in}
use Rattle.zone_state.specs.Zone.{zone_point}

-- what a zone makes of the patch
abbrev pub decided : {D : Type 0} → ZoneView D → CheckedPatch → TakeAnswer
decided zone patch = taking zone.brief.ids zone.brief.bytes (bare patch) zone.limits

-- what is answered where the patch was written, by the phase that failed, if one did
abbrev pub answer_by : Option Phase → ℕ → TakeAnswer
answer_by None version = Applied version
answer_by (Some phase) version = DiskFault

-- The patch is the next one, and was written behind those taken.
pub record WritesNext {D : Type 0} (disks : Ghosts D) (before after : ZoneView D)
    (taken : List CheckedPatch) (doubt : Option CheckedPatch) (patch : CheckedPatch)
    (fate : Fate) (answer : TakeAnswer) : Type 0 where
  pub version : ℕ
  pub can : decided before patch ≡ Applied version
  -- the phase that failed, or none
  pub end : Option Phase
  pub fate_is : fate ≡ fate_of end
  pub answer_is : answer ≡ answer_by end version
  pub doubt_is : after.doubt ≡ doubt_left end doubt patch
  pub written : Written disks before.disk after.disk zone_number (checked_texts taken)
      (text_in doubt) patch.text end

-- The patch isn't the next one: that is told, and nothing changes.
pub record RefusesPatch {D : Type 0} (before after : ZoneView D) (doubt : Option CheckedPatch)
    (patch : CheckedPatch) (answer : TakeAnswer) : Type 0 where
  pub told : answer ≡ decided before patch
  pub never : (version : ℕ) → answer ≢ Applied version
  pub same : after ≡ before
  pub doubt_is : after.doubt ≡ doubt

-- A zone that stood for these patches and this doubt stands for those of the stay.
pub record TookOne {D : Type 0} (disks : Ghosts D) (before after : ZoneView D)
    (taken : List CheckedPatch) (doubt : Option CheckedPatch) (patch : CheckedPatch)
    (answer : TakeAnswer) : Type 0 where
  pub stands : StandsForZone disks.tells (disks.past after.disk) after
      (taken_then answer taken patch) after.doubt
  pub fate : Fate
  pub stay : TakeStay (decided before patch) (map bare taken) (doubt_of doubt) (bare patch) fate
      (zone_point (taken_then answer taken patch) after.doubt) answer
  pub asks : WritesNext disks before after taken doubt patch fate answer
      ⊎ RefusesPatch before after doubt patch answer
