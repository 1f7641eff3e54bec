-- Passes of a registry over a disk in memory.
use Rattle.disk_model.specs.contracts.memory.MemDiskDisk as memory
use Rattle.disk_model.specs.declared.memory.MemDisk.{MemDisk}
use Rattle.log_registry.specs.State.{StateView}
use Rattle.turn_cell.specs.Sights.{Made}
use Rattle.turn_cell.specs.Sharing.{IsPassOf}
use Rattle.shared_registry.specs.History.{RegistrySight, shared_registry}

-- a pass of this registry that doesn't have the turn
abbrev pub IsMemoryPassOf : Made (StateView MemDisk) → RegistrySight → Type 0
IsMemoryPassOf registry p = IsPassOf (shared_registry memory.TheImpl.ghosts) registry p
