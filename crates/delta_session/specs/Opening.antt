-- How a hall is opened over its files, and why it isn't.
use Rattle.std.specs.Prelude.{◌≡◌, ◌≢◌, ℕ, ◌+◌, List, [], ◌∷◌, length, map, None}
use Rattle.std.specs.List.{AllByRecursion}
use Rattle.log_base.specs.declared.limits.TheConstants.{LOG_LIMITS}
use Rattle.disk_model.specs.Past.{reads}
use Rattle.disk_model.specs.declared.disk.Disk.{Ghosts}
use Rattle.log_journal.specs.File.{Holds}
use Rattle.log_journal.specs.Written.{Reopened, RefusedOpening}
use Rattle.log_registry.specs.Fault.{HasRegistryFault}
use Rattle.log_registry.specs.State.{StateView, events_in}
use Rattle.log_registry.specs.declared.fault.RegistryFault.{RegistryFault}
use Rattle.log_registry.specs.declared.fault.RegistryFault.TheVariants as registry
use Rattle.patch_log.specs.declared.fault.LogFault.{LogFault}
use Rattle.patch_log.specs.declared.fault.LogFault.TheVariants as log
use Rattle.registry_core.specs.Events.{IsRegistry}
use Rattle.registry_core.specs.Texts.{registry_payloads, registry_length}
use Rattle.hall_logs.specs.Files.{AreOpened, AreRefusedAt, AreSameDisks}
use Rattle.delta_session.specs.Steps.{HallView}
use Rattle.delta_session.specs.declared.fault.HallFault.{HallFault}
use Rattle.delta_session.specs.declared.fault.HallFault.TheVariants as hall

-- a fault of file 0, as one of the hall
abbrev pub hall_fault_of_registry : RegistryFault → HallFault
hall_fault_of_registry registry.Failed = hall.DiskFault
hall_fault_of_registry (registry.Damaged at) = hall.Damaged 0 at
hall_fault_of_registry registry.OldFormat = hall.OldFormat 0
hall_fault_of_registry (registry.WrongNumber found) = hall.WrongNumber 0 found
hall_fault_of_registry (registry.OverLimit length limit) = hall.OverLimit 0 length limit
hall_fault_of_registry (registry.BrokenEvent place) = hall.BrokenEvent place
hall_fault_of_registry registry.OutOfMemory = hall.OutOfMemory

-- a fault of a file behind it
abbrev pub hall_fault_of_log : ℕ → LogFault → HallFault
hall_fault_of_log file log.Failed = hall.DiskFault
hall_fault_of_log file (log.Damaged at) = hall.Damaged file at
hall_fault_of_log file log.OldFormat = hall.OldFormat file
hall_fault_of_log file (log.WrongNumber found) = hall.WrongNumber file found
hall_fault_of_log file (log.OverLimit length limit) = hall.OverLimit file length limit
hall_fault_of_log file (log.BrokenChain version) = hall.BrokenChain file version
hall_fault_of_log file log.OutOfMemory = hall.OutOfMemory

module _ {D : Type 0} (disks : Ghosts D) where
  -- the registry of a file as it was opened: no pass brought its events, and none is in doubt
  pub record IsOpenedRegistry (disk : D) (opened : StateView D) : Type 0 where
    pub file :
        disks.tells
        → Holds (reads (disks.past disk)) 0 (registry_payloads opened.slots (events_in opened))
    pub sound : IsRegistry opened.slots (events_in opened)
    pub by_nobody : AllByRecursion (λ entry. entry.by ≡ 0) opened.entries
    pub settled : opened.doubt ≡ None
    pub reopened :
        Reopened disks disk opened.disk (registry_length opened.slots (events_in opened))

  -- file 0 has this fault, unless its disk failed or memory ran out
  pub record IsRefusedRegistry (disk : D) (fault : RegistryFault) (after : D) : Type 0 where
    pub has : disks.tells → HasRegistryFault (reads (disks.past disk)) fault
    pub refused : RefusedOpening disks (fault ≡ registry.Failed) disk after

  -- the registry of the file, with so many slots, was opened and let go
  abbrev pub WasOpened : ℕ → D → D → Type 0
  WasOpened slots disk after =
      (opened : StateView D) × IsOpenedRegistry disk opened × (opened.slots ≡ slots)
      × (after ≡ opened.disk)

  -- the first file is the registry, and each other one the log of its slot
  abbrev pub IsOpenedHall : List D → HallView D → Type 0
  IsOpenedHall [] opened = ⊥
  IsOpenedHall (disk ∷ more) opened =
      IsOpenedRegistry disk opened.registry.origin
      × AreOpened disks LOG_LIMITS 1 more (map (λ log. log.origin) opened.logs.logs)
      × (length more ≡ opened.registry.origin.slots)

  -- The first fault, with the disk of file 0 and the others before and behind the try. What stands
  -- behind the file at fault wasn't asked.
  pub data IsHallRefused (disk : D) (more : List D) (fault : HallFault) (after : D)
      (left : List D) : Type 0 where
    -- file 0 has a fault
    registry_refused : (why : RegistryFault) → fault ≡ hall_fault_of_registry why
        → IsRefusedRegistry disk why after → left ≡ more
        → IsHallRefused disk more fault after left
    -- there are not as many other files as the registry has slots
    miscounted : (slots : ℕ) → fault ≡ hall.WrongCount (length more + 1) slots
        → WasOpened slots disk after → length more ≢ slots → left ≡ more
        → IsHallRefused disk more fault after left
    -- one of the others has a fault
    log_refused : (file : ℕ) (why : LogFault) → fault ≡ hall_fault_of_log file why
        → why ≢ log.OutOfMemory
        → WasOpened (length more) disk after → AreRefusedAt disks LOG_LIMITS 1 more file why left
        → IsHallRefused disk more fault after left
    -- memory ran out behind the opening of file 0
    wanting : fault ≡ hall.OutOfMemory → WasOpened (length more) disk after
        → AreSameDisks disks more left
        → IsHallRefused disk more fault after left

  -- a hall was refused, and each disk is in its place
  abbrev pub IsRefusedHall : List D → HallFault → List D → Type 0
  IsRefusedHall (disk ∷ more) fault (after ∷ left) = IsHallRefused disk more fault after left
  IsRefusedHall [] fault after = ⊥
  IsRefusedHall (disk ∷ more) fault [] = ⊥
