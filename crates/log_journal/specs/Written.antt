-- What the calls of a journal leave of its disk.
use Rattle.std.specs.Prelude.{◌≡◌, ℕ, ◌+◌, ◌-◌, ◌≤◌, List, [], ◌∷◌, ◌++◌, not, IsTrue, Option, None}
use Rattle.delta_base.specs.Outside.{Rose}
use Rattle.disk_model.specs.declared.disk.Disk.{Ghosts}
use Rattle.disk_model.specs.Past.{ok_syncs, EveryImage, LeavesOnly, Keeps}
use Rattle.log_base.specs.declared.phase.Phase.{Phase}
use Rattle.log_base.specs.Phases.{phase_by_syncs, phase_by_plan}
use Rattle.log_journal.specs.File.{Holds}
use Rattle.log_journal.specs.Writing.{HoldsDuring, LeavesEither, payloads_left, doubt_left}

module _ {D : Type 0} (disks : Ghosts D) where
  -- A disk after a call that may have failed: its count of faults rose where it did, and else is as
  -- it was. It is the same file, and want of memory isn't forgotten.
  pub record DiskWent (failed : Type 0) (old new : D) : Type 0 where
    pub cause : failed → Rose (disks.faults old) (disks.faults new)
    pub never_falls : disks.faults old ≤ disks.faults new
    pub well : (failed → ⊥) → disks.faults new ≡ disks.faults old
    pub stays_short : disks.plans → IsTrue (disks.short old) → IsTrue (disks.short new)
    pub mark : disks.mark new ≡ disks.mark old

  -- One write of a payload behind others, whatever they stand for; `end` is the phase that
  -- failed, or none.
  pub record Written (old new : D) (number : ℕ) (payloads : List (List ℕ))
      (doubt : Option (List ℕ)) (payload : List ℕ) (end : Option Phase) : Type 0 where
    -- a crash at any moment leaves the payloads, with the one in doubt, with the new one, or alone
    pub any_moment : disks.tells
        → LeavesOnly (HoldsDuring number payloads doubt payload) (disks.past old) (disks.past new)
    -- what is written is in every image
    pub kept : end ≡ None → disks.tells
        → EveryImage (disks.past new) (λ image. Holds image number (payloads ++ payload ∷ []))
    -- the phase is that of the first sync that wasn't done
    pub by_syncs : disks.tells
        → end ≡ phase_by_syncs doubt (ok_syncs (disks.past new) - ok_syncs (disks.past old))
    -- where the syncs fail as planned, it is that of the sync that is planned to fail, and a doubt
    -- that is left stands where what wasn't synced is 1, and not in what was synced
    pub planned : disks.plans → IsTrue (not (disks.short new))
        → end ≡ phase_by_plan doubt (disks.next_failure old)
    pub images : disks.plans → disks.tells → IsTrue (not (disks.short new))
        → LeavesEither (disks.past old) number payloads doubt
        → LeavesEither (disks.past new) number (payloads_left end payloads payload)
        (doubt_left end doubt payload)

  -- An opening: a crash leaves what it might have left before, and a read gives what it gave. No
  -- more is read than the journal, and no call failed.
  pub record Reopened (before after : D) (length : ℕ) : Type 0 where
    pub kept : disks.tells → Keeps (disks.past before) (disks.past after)
    pub few : disks.tells → disks.read_bytes after ≤ disks.read_bytes before + length
    pub faults : disks.faults after ≡ disks.faults before
    pub long : disks.plans → disks.short after ≡ disks.short before
    pub mark : disks.mark after ≡ disks.mark before

  -- An opening that is refused, because the disk failed or not. Where no failure is planned, it
  -- fails for want of memory alone.
  pub record RefusedOpening (failed : Type 0) (before after : D) : Type 0 where
    pub kept : disks.tells → Keeps (disks.past before) (disks.past after)
    pub cause : failed → Rose (disks.faults before) (disks.faults after)
    pub never_falls : disks.faults before ≤ disks.faults after
    pub well : (failed → ⊥) → disks.faults after ≡ disks.faults before
    pub planned : disks.plans → failed → disks.next_failure before ≡ None
        → IsTrue (disks.short after)
    pub mark : disks.mark after ≡ disks.mark before
