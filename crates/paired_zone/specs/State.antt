-- What a zone on two files keeps.
use Rattle.std.specs.Prelude.{◌≡◌, ℕ, ◌+◌, ◌^◌, ◌<◌, ◌≤◌, false, List, Option, None, Some}
use Rattle.log_base.specs.Journals.{payloads_length}
use Rattle.log_base.specs.declared.limits.LogLimits.{LogLimits}
use Rattle.log_base.specs.declared.limits.TheConstants.{LOG_BYTES, ZONE_FILE_LIMIT}
use Rattle.disk_model.specs.declared.disk.Disk.{Ghosts}
use Rattle.log_journal.specs.StandsFor.{length_of, limit_of, disk_of}
use Rattle.log_journal.specs.Writing.{StandsWith}
use Rattle.patch_meaning.specs.Checked.{CheckedPatch, AreChecked}
use Rattle.checkpoint_text.specs.Brief.{Brief, file_length}
use Rattle.checkpoint_text.specs.Text.{checkpoint, IsCheckpoint}
use Rattle.zone_files.specs.Generation.{number_of}
use Rattle.zone_pairs.specs.Pair.{PairPoint, payloads_at, IsStart, start_brief, TakeTo}
use Rattle.zone_pairs.specs.Pair.{IsWithin, MayBeTaken}
use Rattle.zone_state.specs.declared.kept.Kept.{Kept}
use Rattle.zone_state.specs.State.{brief_in}
use Rattle.zone_state.specs.Zone.{text_in}
use Rattle.paired_reading.specs.declared.limit.TheConstants.{CHECKPOINT_FILE_LIMIT}
use Rattle.paired_journal.specs.declared.files.Files.{Files}
use Rattle.paired_journal.specs.Files.{beside_of, on_second, generation_of, disk_beside, OtherStands}
use Rattle.paired_zone.specs.Zone.{PairedView}

abbrev pub view_of : {D : Type 0} {disks : Ghosts D} → Files D disks → Kept → LogLimits
    → Option CheckedPatch → PairedView D
view_of files kept limits doubt = record {
  brief = brief_in kept;
  terms = kept.contents.terms;
  doubt = doubt;
  limits = limits;
  second = on_second (beside_of files);
  generation = generation_of (beside_of files);
  current = disk_of files.current;
  other = disk_beside files;
}

-- The brief is the one to which the patches of the point take that of its checkpoint, within the
-- limits, and the patch in doubt is one that may be taken.
pub record IsPoint (point : PairPoint) (limits : LogLimits) (brief : Brief) : Type 0 where
  pub start_is : IsStart point.generation point.start
  pub in_first : point.start ≡ None → point.second ≡ false
  pub checked : AreChecked point.patches
  pub take : TakeTo (start_brief point.start) point.patches brief
  pub within : IsWithin limits brief
  pub doubtful : MayBeTaken limits brief point.doubt

-- what may be in doubt in the other file is the next checkpoint
abbrev pub IsNextInDoubt : ℕ → Brief → Option (List ℕ) → Type 0
IsNextInDoubt generation brief None = Unit {0}
IsNextInDoubt generation brief (Some next) =
    (next ≡ checkpoint (generation + 1) brief)
    × IsCheckpoint (checkpoint (generation + 1) brief) (generation + 1) brief

-- The journal of the current file stands for a point, and what stands in the other file leaves it as
-- it is, but for the next checkpoint. Nothing is staged, and a checkpoint and all patches that may
-- come have room in a file.
pub record IsPairKept {D : Type 0} {disks : Ghosts D} (files : Files D disks) (kept : Kept)
    (limits : LogLimits) (doubt : Option CheckedPatch) : Type 0 where
  pub unstaged : kept.contents.staged ≡ None
  pub small : limits.bytes ≤ LOG_BYTES
  pub countable : limits.patches < 2 ^ 32
  pub point : PairPoint
  pub is_point : IsPoint point limits (brief_in kept)
  pub doubt_is : point.doubt ≡ doubt
  pub second_is : point.second ≡ on_second (beside_of files)
  pub generation_is : point.generation ≡ generation_of (beside_of files)
  pub limit_is : limit_of files.current ≡ ZONE_FILE_LIMIT
  pub length_is : length_of files.current ≡ payloads_length (payloads_at point)
  pub room : length_of files.current
      ≤ CHECKPOINT_FILE_LIMIT + file_length kept.ids.items kept.bytes
  pub on_current : StandsWith files.current (number_of point.second) (payloads_at point)
      (text_in point.doubt)
  pub next : Option (List ℕ)
  pub next_is : IsNextInDoubt point.generation (brief_in kept) next
  pub on_other : OtherStands (disk_of files.current) (beside_of files) next
