-- What a server has done that opened the files of its directory.
use Rattle.std.specs.Prelude.{◌≡◌, ℕ, ◌+◌, ◌≤◌, List, take, drop, length}
use Rattle.delta_base.specs.declared.link.Link.{Ghosts as LinkGhosts}
use Rattle.disk_model.specs.declared.disk.Disk.{Ghosts}
use Rattle.disk_model.specs.declared.shelf.Shelf.{Ghosts as ShelfGhosts}
use Rattle.slot_files.specs.Files.{Files, bytes_at}
use Rattle.slot_checks.specs.Sound.{HoldsRegistry}
use Rattle.worker_pool.specs.declared.gate.Gate.{Ghosts as GateGhosts}
use Rattle.hall_logs.specs.Slots.{EachHasItsSeats}
use Rattle.delta_session.specs.Halls.{AreHallPasses, AreNewPasses}
use Rattle.delta_session.specs.Opening.{IsOpenedHall}
use Rattle.delta_session.specs.Steps.{HallView, HallSight}
use Rattle.delta_session.specs.Working.{HasWorked}
use Rattle.delta_server.specs.Files.{AreMarked, HaveBegun, ArePutBack}

module _ {D H : Type 0} (disks : Ghosts D) (shelf : ShelfGhosts H D) where
  -- As many disks as file 0 says, and its own: those of the directory's files, which began with
  -- what the files have.
  pub record AreDisksAsked (dir : List ℕ) (files : Files) (asked : List D) : Type 0 where
    pub slots : ℕ
    pub count : length asked ≡ slots + 1
    pub marked : shelf.tells → AreMarked disks dir 0 asked
    pub begun : shelf.tells → HaveBegun disks files dir 0 asked
    pub said :
        shelf.tells → (records : ℕ) × HoldsRegistry (bytes_at files dir 0) slots records

  -- a hall over the files of a directory, with a new pass for each worker
  pub record IsHallOver (dir : List ℕ) (files : Files) (workers : ℕ) (hall : HallView D)
      (passes : List HallSight) : Type 0 where
    pub disks_are : List D
    pub asked : AreDisksAsked dir files disks_are
    pub opened : IsOpenedHall disks disks_are hall
    pub seats : hall.logs.seats ≡ workers
    pub registry_seats : hall.registry.seats ≡ hall.logs.seats
    pub each : EachHasItsSeats hall.logs
    pub all : AreHallPasses disks hall passes
    pub new : AreNewPasses disks hall 1 passes

module _ {D H L G : Type 0} (disks : Ghosts D) (shelf : ShelfGhosts H D) (links : LinkGhosts L)
    (gate : GateGhosts G L) where
  -- A hall was opened over the files, and each worker served the connections of its own gate: one
  -- session each, until the gate gave no more. The other gates were not asked. The files then have
  -- what the hall's disks read.
  pub record HasServed (dir : List ℕ) (workers : ℕ) (old new : Files) (gates after : List G) :
      Type 0 where
    pub hall : HallView D
    pub passes : List HallSight
    pub left : List D
    pub enough : workers ≤ length gates
    pub over : IsHallOver disks shelf dir old workers hall passes
    pub worked :
        HasWorked disks links gate.tells gate.arrivals gate.back gate.faults hall passes
        (take workers gates) (take workers after) left
    pub idle : drop workers after ≡ drop workers gates
    pub count : length after ≡ length gates
    pub put_back : shelf.tells → ArePutBack disks dir left old new
