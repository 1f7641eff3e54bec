-- What is true of all calls of passes.
use Rattle.std.specs.Prelude.{◌≡◌, ℕ, ◌+◌, List, [], ◌++◌, Some, None, slice_get}
use Rattle.std.specs.List.{AllZip}
use Rattle.disk_model.specs.declared.disk.Disk.{Ghosts}
use Rattle.chain_core.specs.declared.chain.Patch.{Patch}
use Rattle.chain_core.specs.Replies.{LogCall, LogReply}
use Rattle.patch_log.specs.State.{LogView}
use Rattle.turn_cell.specs.Sights.{Made}
use Rattle.turn_cell.specs.Knowing.{Wants}
use Rattle.shared_log.specs.History.{LogSight, SeesWhole}
use Rattle.shared_log.specs.Stays.{CalledOnLog}
use Rattle.shared_log.specs.Calls.{call_made, MayWant, AreCalledOnLog}
use Rattle.hall_logs.specs.Slots.{OnSlot, AreAllHallPasses}
use Rattle.hall_logs.specs.Visits.{Visit, IsVisit, asked_at, AreVisits, HasVisited}

module _ {D : Type 0} (disks : Ghosts D) (logs : List (Made (LogView D))) where
  -- a call on the log of a slot is a visit there, with a reply or without
  pub record EachIsVisit (slot : ℕ) (call : LogCall) (before after : List LogSight) : Type 0 where
    pub replied :
        (reply : LogReply)
        → OnSlot slot (λ log p q. CalledOnLog disks log.origin p call reply q) logs before after
        → OnSlot slot (λ log p q. SeesWhole q) logs before after
        → (doubted : List (List Patch))
        × IsVisit disks logs before
        (record { slot = slot; asked = call_made call (Some reply) doubted }) after
    pub wanted :
        MayWant call → OnSlot slot (λ log p q. Wants p q) logs before after
        → OnSlot slot (λ log p q. SeesWhole q) logs before after
        → IsVisit disks logs before (record { slot = slot; asked = call_made call None [] }) after

  -- calls on many logs one after another and then others are all of them one after another
  abbrev pub VisitsCompose : Type 0
  VisitsCompose =
      (before mid after : List LogSight) (first others : List Visit)
      → AreVisits disks logs before first mid → AreVisits disks logs mid others after
      → AreVisits disks logs before (first ++ others) after

  -- of many visits, those on one log are calls one after another of the pass's part of it
  abbrev pub VisitsAreCalls : Type 0
  VisitsAreCalls =
      (before after : List LogSight) (visits : List Visit)
      → AreVisits disks logs before visits after
      → (place : ℕ) (log : Made (LogView D)) (p : LogSight)
      → slice_get logs place ≡ Some log → slice_get before place ≡ Some p
      → (q : LogSight) × (slice_get after place ≡ Some q)
      × AreCalledOnLog disks log.origin p (asked_at (place + 1) visits) q

  -- where all passes were there, all are there after any legal calls of each
  abbrev pub LogPassesStay : Type 0
  LogPassesStay =
      (seats : ℕ) (before after : List (List LogSight))
      → AllZip (HasVisited disks logs) before after
      → AreAllHallPasses disks logs seats before → AreAllHallPasses disks logs seats after
