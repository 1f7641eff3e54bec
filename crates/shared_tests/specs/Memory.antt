-- A log over a disk in memory.
use Rattle.std.specs.Prelude.{List}
use Rattle.disk_model.specs.declared.memory.MemDisk.{MemDisk}
use Rattle.disk_model.specs.contracts.memory.MemDiskDisk as disks
use Rattle.chain_core.specs.declared.chain.Patch.{Patch}
use Rattle.patch_log.specs.State.{LogView}
use Rattle.turn_cell.specs.declared.chained.Chained.{Ghosts as Shared}
use Rattle.shared_log.specs.declared.value.LogFixed.{LogFixed}
use Rattle.shared_log.specs.declared.value.Placed.{Placed}
use Rattle.shared_log.specs.History.{shared_log}

-- as a value that passes share
abbrev pub log_in_memory : Shared (LogView MemDisk) Placed (List Patch) LogFixed
log_in_memory = shared_log disks.TheImpl.ghosts
