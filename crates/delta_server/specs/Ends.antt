-- What a server answers, and why.
use Rattle.std.specs.Prelude.{◌≡◌, ◌⊎◌, ℕ, List, take}
use Rattle.delta_base.specs.Outside.{Rose}
use Rattle.delta_base.specs.declared.link.Link.{Ghosts as LinkGhosts}
use Rattle.disk_model.specs.declared.disk.Disk.{Ghosts}
use Rattle.disk_model.specs.declared.shelf.Shelf.{Ghosts as ShelfGhosts}
use Rattle.slot_files.specs.Files.{bytes_at}
use Rattle.slot_checks.specs.Checks.{AreKept}
use Rattle.slot_checks.specs.Faults.{HasRegistryFileFault}
use Rattle.slot_checks.specs.declared.fault.CheckFault.{CheckFault}
use Rattle.slot_checks.specs.declared.fault.CheckFault.TheVariants as checks
use Rattle.slot_checks.specs.declared.marker.TheConstants.{FILES_MARKER}
use Rattle.worker_pool.specs.declared.gate.Gate.{Ghosts as GateGhosts}
use Rattle.gate_crews.specs.Gates.{HaveFailed}
use Rattle.command_tables.specs.Channels.{Channel, IsSilent}
use Rattle.command_tables.specs.Markers.{SeesNoMark, StopsAtMark}
use Rattle.command_tables.specs.Refusals.{ReportsRefusal}
use Rattle.command_tables.specs.Refusals.{check_refusal}
use Rattle.command_tables.specs.declared.refusal.Refusal.{Refusal}
use Rattle.command_tables.specs.declared.refusal.Refusal.TheVariants as refusals
use Rattle.delta_session.specs.Ends.{IsEnded}
use Rattle.delta_session.specs.Opening.{IsRefusedHall}
use Rattle.delta_session.specs.Steps.{HallView, HallSight}
use Rattle.delta_session.specs.declared.fault.HallFault.{HallFault}
use Rattle.delta_session.specs.declared.fault.HallFault.TheVariants as halls
use Rattle.delta_server.specs.Files.{ArePutBack, IsWithinSaid}
use Rattle.delta_server.specs.Serving.{AreDisksAsked, IsHallOver, HasServed}
use Rattle.command_tables.specs.Views.{ShelfView}
use Rattle.delta_server.specs.Words.{AsksToServe, RefusesToServe}

-- the end of a server whose hall has this fault
abbrev pub hall_refusal : HallFault → Refusal
hall_refusal halls.DiskFault = refusals.DiskFailed
hall_refusal (halls.Damaged file at) = refusals.File (checks.Damaged file at)
hall_refusal (halls.OldFormat file) = refusals.File (checks.OldFormat file)
hall_refusal (halls.WrongNumber file found) = refusals.File (checks.WrongNumber file found)
hall_refusal (halls.OverLimit file length limit) =
    refusals.File (checks.OverLimit file length limit)
hall_refusal (halls.BrokenChain file version) = refusals.File (checks.BrokenChain file version)
hall_refusal (halls.BrokenEvent place) = refusals.File (checks.BrokenEvent place)
hall_refusal (halls.WrongCount disks slots) = refusals.WrongCount disks slots
hall_refusal halls.OutOfMemory = refusals.OutOfMemory

module _ {D H : Type 0} (shelf : ShelfGhosts H D) where
  -- why the disks of a directory's files are not there, and what is left of the files
  pub data HasNoDisks (dir : List ℕ) (old new : ShelfView) : Refusal → Type 0 where
    -- file 0 isn't that of a registry, or its disk failed; no other was asked for
    at_registry : (fault : CheckFault)
        → (shelf.tells → HasRegistryFileFault (bytes_at old.files dir 0) fault)
        → (fault ≡ checks.Failed → Rose old.faults new.faults)
        → (shelf.tells → AreKept dir 1 old.files new.files)
        → HasNoDisks dir old new (check_refusal fault)
    -- the shelf didn't give the disk of a file; no file was asked for that file 0 doesn't tell of
    at_shelf : (refusal : Refusal) (end : ℕ)
        → ((refusal ≡ refusals.DiskFailed) × Rose old.faults new.faults)
        ⊎ (refusal ≡ refusals.OutOfMemory)
        → (shelf.tells → IsWithinSaid old.files dir end)
        → (shelf.tells → AreKept dir end old.files new.files)
        → HasNoDisks dir old new refusal

module _ {D H : Type 0} (disks : Ghosts D) (shelf : ShelfGhosts H D) where
  -- why no connection was served, and what is left of the files
  pub data StopsServe (dir : List ℕ) (workers : ℕ) (old new : ShelfView) : Refusal → Type 0 where
    at_files : (refusal : Refusal) → HasNoDisks shelf dir old new refusal
        → StopsServe dir workers old new refusal
    -- The hall couldn't be opened over its files. That their count is wrong is told only where two
    -- readings of file 0 differ.
    at_hall : (fault : HallFault) (asked left : List D)
        → AreDisksAsked disks shelf dir old.files asked
        → IsRefusedHall disks asked fault left
        → (fault ≡ halls.DiskFault → Rose old.faults new.faults)
        → (shelf.tells → (count slots : ℕ) → fault ≡ halls.WrongCount count slots → ⊥)
        → (shelf.tells → ArePutBack disks dir left old.files new.files)
        → StopsServe dir workers old new (hall_refusal fault)
    -- memory for the workers ran out, and the hall was closed as it was opened
    at_workers : (hall : HallView D) (passes : List HallSight) (left : List D)
        → IsHallOver disks shelf dir old.files workers hall passes
        → IsEnded disks hall passes left
        → (shelf.tells → ArePutBack disks dir left old.files new.files)
        → StopsServe dir workers old new refusals.OutOfMemory

module _ {D H L G : Type 0} (disks : Ghosts D) (shelf : ShelfGhosts H D) (links : LinkGhosts L)
    (gate : GateGhosts G L) where
  -- The files were opened and connections served, and a gate of a worker has failed; or none was
  -- served, and no gate was asked.
  abbrev pub FailsServe : List ℕ → ℕ → ShelfView → ShelfView → List G → List G → Refusal → Type 0
  FailsServe dir workers old new gates after refusal =
      ((refusal ≡ refusals.LinkFailed)
      × HasServed disks shelf links gate dir workers old.files new.files gates after
      × HaveFailed gate.faults (take workers gates) (take workers after))
      ⊎ (StopsServe disks shelf dir workers old new refusal × (after ≡ gates))

  -- The status for these words, with the shelf, the gates and err before and after.
  pub data AnswersServe (words : List (List ℕ)) (old new : ShelfView) (gates after : List G)
      (err err' : Channel) : ℕ → Type 0 where
    -- no gate of a worker has failed
    served : (dir address : List ℕ) (workers : ℕ) (seen : ShelfView)
        → AsksToServe words dir address workers
        → SeesNoMark dir FILES_MARKER shelf.tells old seen
        → HasServed disks shelf links gate dir workers seen.files new.files gates after
        → (HaveFailed gate.faults (take workers gates) (take workers after) → ⊥)
        → IsSilent err err'
        → AnswersServe words old new gates after err err' 0
    -- the gate of a worker has failed, or no connection was served
    failed : (dir address : List ℕ) (workers : ℕ) (refusal : Refusal) (status : ℕ)
        (seen : ShelfView) → AsksToServe words dir address workers
        → SeesNoMark dir FILES_MARKER shelf.tells old seen
        → FailsServe dir workers seen new gates after refusal
        → ReportsRefusal refusal err err' status
        → AnswersServe words old new gates after err err' status
    -- an upgrade of the files was broken off, or its marker couldn't be read
    marked : (dir address : List ℕ) (workers : ℕ) (refusal : Refusal) (status : ℕ)
        → AsksToServe words dir address workers
        → StopsAtMark dir FILES_MARKER shelf.tells old new refusal → after ≡ gates
        → ReportsRefusal refusal err err' status
        → AnswersServe words old new gates after err err' status
    -- nothing was asked
    refused : (refusal : Refusal) (status : ℕ) → RefusesToServe words refusal → new ≡ old
        → after ≡ gates → ReportsRefusal refusal err err' status
        → AnswersServe words old new gates after err err' status
