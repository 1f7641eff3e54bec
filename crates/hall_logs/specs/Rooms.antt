-- Room for what comes back when logs are closed.
use Rattle.std.specs.Prelude.{ℕ, ◌≤◌, length}
use Rattle.hall_logs.specs.Slots.{LogsOfHall}

-- how many lists there are for the passes of one log each, and for how many passes each has room
pub record ListRooms : Type 0 where
  pub count : ℕ
  pub width : ℕ

-- these lists, and for how many disks there is room
pub record Room : Type 0 where
  pub lists : ListRooms
  pub disks : ℕ

-- there is room for the passes of each log, and for the disks of all
pub record HasRoom {D : Type 0} (hall : LogsOfHall D) (room : Room) : Type 0 where
  pub count : length hall.logs ≤ room.lists.count
  pub width : hall.seats ≤ room.lists.width
  pub disks : length hall.logs ≤ room.disks
