-- What taking a patch comes to on two files.
use Rattle.std.specs.Prelude.{◌≡◌, ◌≢◌, ◌⊎◌, ℕ, [], ◌∷◌, ◌++◌, Option}
use Rattle.disk_model.specs.declared.disk.Disk.{Ghosts}
use Rattle.disk_model.specs.Past.{EveryImage, LeavesOnly}
use Rattle.log_journal.specs.File.{Holds}
use Rattle.term_table.specs.Table.{most}
use Rattle.dataset_tx.specs.Held.{AreMet, AreMore}
use Rattle.patch_meaning.specs.Checked.{CheckedPatch}
use Rattle.patch_log.specs.Log.{bare}
use Rattle.zone_files.specs.Generation.{number_of}
use Rattle.zone_files.specs.Pair.{IsBehind}
use Rattle.zone_pairs.specs.Briefs.{with_patch}
use Rattle.zone_pairs.specs.Pair.{PairPoint, payloads_at, MayBeBeside, MayHoldTaking}
use Rattle.zone_state.specs.declared.answer.TakeAnswer.{TakeAnswer}
use Rattle.zone_state.specs.declared.answer.TakeAnswer.TheVariants.{Applied, TermsFull}
use Rattle.zone_state.specs.declared.answer.TakeAnswer.TheVariants.{OutOfMemory, DiskFault}
use Rattle.zone_state.specs.Taking.{taking, taken_then, IsDecidedBy, WantsForTaking}
use Rattle.zone_state.specs.Takes.{LeavesInDoubt}
use Rattle.paired_journal.specs.Pair.{DisksWent}
use Rattle.paired_zone.specs.Zone.{PairedView, StandsAt}

-- what a zone makes of the patch
abbrev pub decided : {D : Type 0} → PairedView D → CheckedPatch → TakeAnswer
decided zone patch = taking zone.brief.ids zone.brief.bytes (bare patch) zone.limits

-- the point behind an answer: with the patch where it is applied, and with this one in doubt
abbrev pub point_then : TakeAnswer → PairPoint → CheckedPatch → Option CheckedPatch → PairPoint
point_then answer point patch doubt = record {
  second = point.second;
  generation = point.generation;
  start = point.start;
  patches = taken_then answer point.patches patch;
  doubt = doubt;
}

-- What the two disks stood for and stand for. A crash at any moment leaves of the current file its
-- payloads, or these and the patch that was in doubt or the new one; and the other file as it was
-- allowed to be before.
pub record TookBeside {D : Type 0} (disks : Ghosts D) (before after : PairedView D)
    (patch : CheckedPatch) (answer : TakeAnswer) : Type 0 where
  pub point : PairPoint
  pub stood : StandsAt disks before point
  pub stands : StandsAt disks after (point_then answer point patch after.doubt)
  pub on_current : disks.tells
      → LeavesOnly (MayHoldTaking (number_of point.second) (payloads_at point) point.doubt patch)
      (disks.past before.current) (disks.past after.current)
  pub on_other : disks.tells
      → LeavesOnly (MayBeBeside point.second point.generation before.brief)
      (disks.past before.other) (disks.past after.other)
  -- what is applied is in every image of the current file, and no image of the other comes before it
  pub kept : (version : ℕ) → answer ≡ Applied version → disks.tells
      → EveryImage (disks.past after.current) (λ image.
      Holds image (number_of point.second) (payloads_at point ++ patch.text ∷ []))
      × EveryImage (disks.past after.other) (IsBehind point.second point.generation)

pub record TakesPatch {D : Type 0} (disks : Ghosts D) (old new : PairedView D)
    (patch : CheckedPatch) (answer : TakeAnswer) : Type 0 where
  -- the answer is what the zone makes of the patch, unless this is the next one and can't be taken
  pub decided : IsDecidedBy (taking old.brief.ids old.brief.bytes (bare patch) old.limits) answer
  -- where memory or numbers for terms are wanting, the patch is the next one
  pub want : (answer ≡ TermsFull) ⊎ (answer ≡ OutOfMemory)
      → WantsForTaking (taking old.brief.ids old.brief.bytes (bare patch) old.limits) answer
  -- numbers are wanting only where the terms met before and its own are more than there are
  pub terms_full : answer ≡ TermsFull → AreMore most patch.meaning.changes old.terms
  -- a term that is met then was met before, or is one of the patch's
  pub terms : AreMet patch.meaning.changes old.terms new.terms
  -- what was applied is counted, and its changes are made
  pub applied : (version : ℕ) → answer ≡ Applied version → new.brief ≡ with_patch old.brief patch
  -- what wasn't applied leaves ids and dataset as they were
  pub refused : ((version : ℕ) → answer ≢ Applied version) → new.brief ≡ old.brief
  -- where no disk was asked, nothing changes but what is known of terms
  pub untouched : answer ≢ DiskFault → ((version : ℕ) → answer ≢ Applied version)
      → new ≡ record old { terms = new.terms }
  -- where the patch isn't the next one, nothing changes
  pub same : ((version : ℕ)
      → taking old.brief.ids old.brief.bytes (bare patch) old.limits ≢ Applied version) → new ≡ old
  -- the patch in doubt is none, or the one before, or this one
  pub doubt : LeavesInDoubt answer old.doubt patch new.doubt
  -- the same file is current, in the same generation
  pub second : new.second ≡ old.second
  pub generation : new.generation ≡ old.generation
  -- what becomes of the two disks
  pub beside : TookBeside disks old new patch answer
  -- a failing disk is counted, and the disks are the same files
  pub went : DisksWent disks (answer ≡ DiskFault) old.current new.current old.other new.other
  -- and limits never change
  pub limits : new.limits ≡ old.limits
