-- Logs by their slots, and passes that each have a part of every log.
use Rattle.std.specs.Prelude.{◌≡◌, ℕ, ◌+◌, ◌-◌, ◌<◌, ◌≤◌, List, [], ◌∷◌, ◌++◌, length, min, Some}
use Rattle.std.specs.Prelude.{slice_get, slice_set}
use Rattle.std.specs.List.{AllZip, sum_by}
use Rattle.disk_model.specs.declared.disk.Disk.{Ghosts}
use Rattle.patch_log.specs.State.{LogView}
use Rattle.turn_cell.specs.Turns.{IsIn, AllOf, last_count}
use Rattle.turn_cell.specs.Sights.{Made}
use Rattle.turn_cell.specs.Knowing.{pass_number, own_faults_of}
use Rattle.turn_cell.specs.Sharing.{IsPassOf, IsNewPassOf}
use Rattle.shared_log.specs.History.{LogSight, shared_log}
use Rattle.hall_logs.specs.Dealt.{with_items}

-- logs in the order of their slots, which are counted from 1, and how many passes share them
pub record LogsOfHall (D : Type 0) : Type 0 where
  pub logs : List (Made (LogView D))
  pub seats : ℕ

-- each log is shared among as many passes as the hall has
abbrev pub EachHasItsSeats : {D : Type 0} → LogsOfHall D → Type 0
EachHasItsSeats hall = AllOf (λ log. log.seats ≡ hall.seats) hall.logs

-- the own faults of all parts together, or the last value of u64 where the sum passes that
abbrev pub all_faults : List LogSight → ℕ
all_faults parts = min (sum_by (λ part. own_faults_of part) parts) last_count

-- On the log of a slot it is as R says, and every other log's part of the pass is as it was.
pub record OnSlot {D : Type 0} (slot : ℕ)
    (R : Made (LogView D) → LogSight → LogSight → Type 0)
    (logs : List (Made (LogView D))) (before after : List LogSight) : Type 0 where
  pub place : ℕ
  pub log : Made (LogView D)
  pub old : LogSight
  pub new : LogSight
  pub slot_is : slot ≡ place + 1
  pub log_is : slice_get logs place ≡ Some log
  pub old_is : slice_get before place ≡ Some old
  pub others : after ≡ slice_set before place new
  pub so : R log old new

module _ {D : Type 0} (disks : Ghosts D) where
  -- a part of each log
  abbrev pub ArePartsOf : List (Made (LogView D)) → List LogSight → Type 0
  ArePartsOf logs parts = AllZip (IsPassOf (shared_log disks)) logs parts

  -- It is the log of the slot, and the pass has a part of it. A call that leaves this part as one
  -- of the same log leaves the pass a part of each log.
  pub record HasPart (logs : List (Made (LogView D))) (parts : List LogSight) (slot : ℕ)
      (log : Made (LogView D)) : Type 0 where
    pub within : (0 < slot) × (slot ≤ length parts)
    pub log_is : slice_get logs (slot - 1) ≡ Some log
    pub of :
        (part : LogSight) → slice_get parts (slot - 1) ≡ Some part
        → IsPassOf (shared_log disks) log part
    pub still :
        (part : LogSight) → IsPassOf (shared_log disks) log part
        → ArePartsOf logs (slice_set parts (slot - 1) part)

  -- new passes, whose numbers go up from this one
  abbrev pub AreNew : List (Made (LogView D)) → ℕ → List (List LogSight) → Type 0
  AreNew logs number [] = Unit {0}
  AreNew logs number (parts ∷ passes) =
      AllZip (λ log part. IsNewPassOf (shared_log disks) log number part) logs parts
      × AreNew logs (number + 1) passes

  -- each is a pass of these logs, and none is missing: each number up to that of the seats has one
  pub record AreAllHallPasses (logs : List (Made (LogView D))) (seats : ℕ)
      (passes : List (List LogSight)) : Type 0 where
    pub of : AllOf (ArePartsOf logs) passes
    pub count : length passes ≡ seats
    pub all :
        (n : ℕ) → 0 < n → n ≤ seats
        → (parts : List LogSight) × IsIn parts passes × AllOf (λ part. pass_number part ≡ n) parts

  -- one log more is shared, of which each pass got a new part
  pub record IsShared (opened : LogView D) (old : LogsOfHall D) (before : List (List LogSight))
      (new : LogsOfHall D) (after : List (List LogSight)) : Type 0 where
    pub log : Made (LogView D)
    pub parts : List LogSight
    pub logs_are : new.logs ≡ old.logs ++ log ∷ []
    pub origin_is : log.origin ≡ opened
    pub seats_are : new.seats ≡ old.seats
    pub dealt : after ≡ with_items before parts
    pub count : length parts ≡ length before
    pub new_parts :
        (k : ℕ) (part : LogSight) → slice_get parts k ≡ Some part
        → IsNewPassOf (shared_log disks) log (k + 1) part
