-- A zone over two disks in memory, which two passes share.
use Rattle.std.specs.Prelude.{◌≡◌, ℕ}
use Rattle.disk_model.specs.declared.memory.MemDisk.{MemDisk}
use Rattle.disk_model.specs.contracts.memory.MemDiskDisk as disks
use Rattle.chain_core.specs.declared.chain.Patch.{Patch}
use Rattle.patch_meaning.specs.Checked.{CheckedPatch}
use Rattle.turn_cell.specs.declared.chained.Chained.{Ghosts as Shared}
use Rattle.turn_cell.specs.Knowing.{pass_number}
use Rattle.turn_cell.specs.Sharing.{IsPassOf}
use Rattle.turn_cell.specs.Sights.{Made}
use Rattle.shared_zone.specs.declared.fixed.ZoneFixed.{ZoneFixed}
use Rattle.shared_zone.specs.History.{SharedZone, ZoneSight, shared_zone}

-- as a value that passes share
abbrev pub zone_in_memory : Shared (SharedZone MemDisk) CheckedPatch Patch ZoneFixed
zone_in_memory = shared_zone disks.TheImpl.ghosts

-- the pass of this number
abbrev pub IsNumbered : Made (SharedZone MemDisk) → ℕ → ZoneSight → Type 0
IsNumbered made number p = IsPassOf zone_in_memory made p × (pass_number p ≡ number)
