-- What taking a patch comes to.
use Rattle.std.specs.Prelude.{◌≡◌, ◌≢◌, ◌⊎◌, ℕ, List, Option, Some, None}
use Rattle.disk_model.specs.declared.disk.Disk.{Ghosts}
use Rattle.term_table.specs.Table.{most}
use Rattle.dataset_tx.specs.Held.{AreMet, AreMore}
use Rattle.log_base.specs.declared.phase.Phase.{Phase}
use Rattle.log_journal.specs.Writing.{doubt_left}
use Rattle.log_journal.specs.Written.{DiskWent}
use Rattle.patch_meaning.specs.Checked.{CheckedPatch}
use Rattle.zone_state.specs.declared.answer.TakeAnswer.{TakeAnswer}
use Rattle.zone_state.specs.declared.answer.TakeAnswer.TheVariants.{Applied, TermsFull}
use Rattle.zone_state.specs.declared.answer.TakeAnswer.TheVariants.{OutOfMemory, DiskFault}
use Rattle.zone_state.specs.Brief.{with_patch}
use Rattle.zone_state.specs.Taking.{IsDecidedBy, WantsForTaking}
use Rattle.zone_state.specs.Zone.{ZoneView, StandsForZone}
use Rattle.zone_state.specs.Stay.{TookOne}
use Rattle.zone_state.specs.Stay as stays

-- The patch in doubt behind an answer: none where this one was applied; where the disk failed, by
-- the part of the write that failed, the one before, none, or this one; and else the one before.
abbrev pub LeavesInDoubt : TakeAnswer → Option CheckedPatch → CheckedPatch → Option CheckedPatch
    → Type 0
LeavesInDoubt (Applied version) before patch after = after ≡ None
LeavesInDoubt DiskFault before patch after =
    (phase : Phase) × (after ≡ doubt_left (Some phase) before patch)
LeavesInDoubt other before patch after = after ≡ before

pub record TakesPatch {D : Type 0} (disks : Ghosts D) (old new : ZoneView D) (patch : CheckedPatch)
    (answer : TakeAnswer) : Type 0 where
  -- the answer is what the zone makes of the patch, unless this is the next one and can't be taken
  pub decided : IsDecidedBy (stays.decided old patch) answer
  -- where nothing was wanting it is one stay of the zone, whatever patches it stood for
  pub stay : (taken : List CheckedPatch) (doubt : Option CheckedPatch)
      → StandsForZone disks.tells (disks.past old.disk) old taken doubt
      → answer ≢ TermsFull → answer ≢ OutOfMemory
      → TookOne disks old new taken doubt patch answer
  -- where memory or numbers for terms are wanting, the patch is the next one
  pub want : (answer ≡ TermsFull) ⊎ (answer ≡ OutOfMemory)
      → WantsForTaking (stays.decided old patch) answer
  -- numbers are wanting only where the terms met before and its own are more than there are
  pub terms_full : answer ≡ TermsFull → AreMore most patch.meaning.changes old.terms
  -- a term that is met then was met before, or is one of the patch's
  pub terms : AreMet patch.meaning.changes old.terms new.terms
  -- what was applied is counted, and its changes are made
  pub applied : (version : ℕ) → answer ≡ Applied version → new.brief ≡ with_patch old.brief patch
  -- what wasn't applied leaves ids and dataset as they were
  pub refused : ((version : ℕ) → answer ≢ Applied version) → new.brief ≡ old.brief
  -- where the disk wasn't asked, nothing changes but what is known of terms
  pub untouched : answer ≢ DiskFault → ((version : ℕ) → answer ≢ Applied version)
      → new ≡ record old { terms = new.terms }
  -- the patch in doubt is none, or the one before, or this one
  pub doubt : LeavesInDoubt answer old.doubt patch new.doubt
  -- a failing disk is counted, and the disk is the same file
  pub went : DiskWent disks (answer ≡ DiskFault) old.disk new.disk
  -- and limits never change
  pub limits : new.limits ≡ old.limits
