-- What a hall has come to once all its passes are back.
use Rattle.std.specs.Prelude.{◌≡◌, ℕ, ◌<◌, ◌≤◌, List, [], ◌∷◌, length, map}
use Rattle.disk_model.specs.Past.{reads}
use Rattle.disk_model.specs.declared.disk.Disk.{Ghosts}
use Rattle.log_registry.specs.Stands.{MayHoldEvents}
use Rattle.log_registry.specs.State.{StateView, events_in}
use Rattle.turn_cell.specs.Sights.{Made}
use Rattle.turn_cell.specs.Sharing.{IsClosedOf}
use Rattle.shared_registry.specs.History.{RegistrySight, shared_registry}
use Rattle.hall_logs.specs.Ends.{AreEnded}
use Rattle.hall_logs.specs.Rooms.{HasRoom, Room}
use Rattle.delta_session.specs.Steps.{HallView, HallSight}

module _ {D : Type 0} (disks : Ghosts D) where
  -- The registry was closed with these passes, and its disk stands for it. The file holds its
  -- events, or these and the one in doubt, and so does each image that a crash may leave.
  pub record EndsRegistry (made : Made (StateView D)) (passes : List RegistrySight)
      (disk : D) : Type 0 where
    pub registry : StateView D
    pub closed : IsClosedOf (shared_registry disks) made passes registry
    pub disk_is : disk ≡ registry.disk
    pub file :
        disks.tells
        → MayHoldEvents registry.slots (events_in registry) registry.doubt (reads (disks.past disk))

  -- the first disk is that of the registry, and each other one that of the log of its slot
  abbrev pub IsEnded : HallView D → List HallSight → List D → Type 0
  IsEnded hall passes [] = ⊥
  IsEnded hall passes (disk ∷ more) =
      EndsRegistry hall.registry (map (λ pass. pass.lists.registry) passes) disk
      × AreEnded disks 0 hall.logs.logs (map (λ pass. pass.lists.logs) passes) more

-- for how many passes of the registry and of the logs there is room, and the room of the logs
pub record RoomView : Type 0 where
  pub registry : ℕ
  pub logs : ℕ
  pub rooms : Room

-- there is room for all passes, and for the disks of all files
pub record HasHallRoom {D : Type 0} (hall : HallView D) (room : RoomView) : Type 0 where
  pub registry : hall.logs.seats ≤ room.registry
  pub logs : hall.logs.seats ≤ room.logs
  pub rooms : HasRoom hall.logs room.rooms
  pub disks : length hall.logs.logs < room.rooms.disks
