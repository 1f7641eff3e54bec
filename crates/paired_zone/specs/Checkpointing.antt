-- What making a checkpoint comes to on two files.
use Rattle.std.specs.Prelude.{◌≡◌, ◌≢◌, ◌⊎◌, ℕ, ◌+◌, ◌-◌, ◌^◌, Bool, true, false, not, [], ◌∷◌}
use Rattle.std.specs.Prelude.{Option, Some, None, Result, Ok, Err, length, if◌then◌else◌}
use Rattle.disk_model.specs.declared.disk.Disk.{Ghosts}
use Rattle.disk_model.specs.Past.{EveryImage, LeavesOnly}
use Rattle.log_journal.specs.File.{Holds}
use Rattle.patch_meaning.specs.Checked.{CheckedPatch}
use Rattle.checkpoint_text.specs.Brief.{Brief}
use Rattle.checkpoint_text.specs.Text.{checkpoint}
use Rattle.zone_files.specs.Generation.{number_of}
use Rattle.zone_files.specs.Pair.{IsBehind}
use Rattle.zone_beside.specs.declared.fault.WriteFault.{WriteFault}
use Rattle.zone_beside.specs.declared.fault.WriteFault.TheVariants as write
use Rattle.zone_pairs.specs.Pair.{PairPoint, payloads_at, MayBeBeside, MayHoldPayloads}
use Rattle.paired_journal.specs.Pair.{DisksWent}
use Rattle.paired_zone.specs.declared.answer.CheckEnd.{CheckEnd}
use Rattle.paired_zone.specs.declared.answer.CheckEnd.TheVariants.{Done, TooLarge, DiskFault, OutOfMemory}
use Rattle.paired_zone.specs.Large.{IsTooLarge}
use Rattle.paired_zone.specs.Zone.{PairedView, StandsAt, first_in, second_in}

-- what writing it comes to
abbrev pub end_by : {T : Type 0} → Result T WriteFault → ℕ → CheckEnd
end_by (Ok written) version = Done version
end_by (Err write.Failed) version = DiskFault
end_by (Err write.OutOfMemory) version = OutOfMemory

-- what is in doubt where the journal is settled, or isn't
abbrev pub doubt_by : {X : Type 0} → Bool → Option X → Option X
doubt_by settled doubt = if settled then None else doubt

-- the disk of the second file, or of the first
abbrev pub disk_in : {D : Type 0} → PairedView D → Bool → D
disk_in zone true = second_in zone
disk_in zone false = first_in zone

-- The point behind an answer, with this patch in doubt: where the checkpoint is made, it stands alone
-- in the other file.
abbrev pub point_made : CheckEnd → PairPoint → Brief → Option CheckedPatch → PairPoint
point_made (Done version) point brief doubt = record {
  second = not point.second;
  generation = point.generation + 1;
  start = Some brief;
  patches = [];
  doubt = doubt;
}
point_made (TooLarge shown limit) point brief doubt = record point { doubt = doubt }
point_made DiskFault point brief doubt = record point { doubt = doubt }
point_made OutOfMemory point brief doubt = record point { doubt = doubt }

-- The other file is current now, in the next generation. Every image of it holds the checkpoint
-- alone, and no image of the file that was current comes before it.
pub record HasCheckpoint {D : Type 0} (disks : Ghosts D) (old new : PairedView D) : Type 0 where
  pub second : new.second ≡ not old.second
  pub generation : new.generation ≡ old.generation + 1
  pub doubt : new.doubt ≡ None
  pub alone : disks.tells → EveryImage (disks.past new.current) (λ image.
      Holds image (number_of new.second) (checkpoint new.generation old.brief ∷ []))
  pub behind : disks.tells
      → EveryImage (disks.past new.other) (IsBehind new.second new.generation)

-- The same file is current, in the same generation.
pub record IsCurrentStill {D : Type 0} (old new : PairedView D) : Type 0 where
  pub second : new.second ≡ old.second
  pub generation : new.generation ≡ old.generation

-- What the two disks stood for and stand for. A crash at any moment leaves of the file that was
-- current its payloads, or these and the patch that was in doubt; and the other one as it was allowed
-- to be before, where the next checkpoint may stand in it alone. By `images_are_of_a_zone` any two
-- such images are those of a zone of the brief before, or of that with the patch in doubt.
pub record MadeBeside {D : Type 0} (disks : Ghosts D) (old new : PairedView D)
    (end : CheckEnd) : Type 0 where
  pub point : PairPoint
  pub stood : StandsAt disks old point
  pub stands : StandsAt disks new (point_made end point old.brief new.doubt)
  pub on_current : disks.tells
      → LeavesOnly (MayHoldPayloads (number_of point.second) (payloads_at point) point.doubt)
      (disks.past old.current) (disks.past (disk_in new old.second))
  pub on_other : disks.tells
      → LeavesOnly (MayBeBeside point.second point.generation old.brief)
      (disks.past old.other) (disks.past (disk_in new (not old.second)))

pub record MakesCheckpoint {D : Type 0} (disks : Ghosts D) (old new : PairedView D)
    (end : CheckEnd) : Type 0 where
  -- what is kept stays as it was
  pub brief : new.brief ≡ old.brief
  pub terms : new.terms ≡ old.terms
  pub limits : new.limits ≡ old.limits
  -- what is done is of all patches taken, and stands in every image
  pub version : (version : ℕ) → end ≡ Done version → version ≡ length old.brief.ids
  pub done : (version : ℕ) → end ≡ Done version → HasCheckpoint disks old new
  -- too large is what is so; and of what is so nothing else is told, but that memory may be wanting
  -- before it is known
  pub too_large : (shown limit : ℕ) → end ≡ TooLarge shown limit
      → IsTooLarge old.generation old.brief shown limit
  pub large : (shown limit : ℕ) → IsTooLarge old.generation old.brief shown limit
      → (end ≡ TooLarge shown limit) ⊎ (end ≡ OutOfMemory)
  pub no_later : old.generation ≡ 2 ^ 64 - 1 → end ≡ TooLarge old.generation old.generation
  -- then no disk was asked
  pub untouched : (shown limit : ℕ) → end ≡ TooLarge shown limit → new ≡ old
  -- where it isn't made the same file is current; and nothing is in doubt, or what was
  pub still : ((version : ℕ) → end ≢ Done version) → IsCurrentStill old new
  pub doubt : (new.doubt ≡ old.doubt) ⊎ (new.doubt ≡ None)
  -- what becomes of the two disks
  pub beside : MadeBeside disks old new end
  -- a failing disk is counted, and the disks are the same files
  pub went : DisksWent disks (end ≡ DiskFault) old.current (disk_in new old.second)
      old.other (disk_in new (not old.second))
