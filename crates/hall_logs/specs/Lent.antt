-- A part of a pass, while a call has it.
use Rattle.std.specs.Prelude.{ℕ, ◌-◌, List, slice_set}
use Rattle.std.specs.Borrow.{Lends, MutBor, Fml, RattleType}
use Rattle.std.specs.contracts.alloc.Global as global
use Rattle.std.specs.contracts.collections.LinkedList as list
use Rattle.std.specs.contracts.impls.GlobalAllocator.TheImpl.{ghosts}
use Rattle.disk_model.specs.declared.disk.Disk.{Ghosts}
use Rattle.chain_core.specs.contracts.chain.Patch as patch
use Rattle.twin_cell.specs.contracts.twin.TwinPass as pass
use Rattle.shared_log.specs.contracts.value.LogFixed as fixed
use Rattle.shared_log.specs.contracts.value.LogList as listed
use Rattle.shared_log.specs.contracts.value.LogWork as work
use Rattle.shared_log.specs.contracts.value.Placed as placed
use Rattle.shared_log.specs.History.{LogSight}
use Rattle.shared_log.specs.Parts.{log_list, log_work}
use Rattle.hall_logs.specs.contracts.pass.LogsPass as parts

module _ (D : RattleType) (disks : Ghosts D.Denot) where
  -- the type of a part
  abbrev pub log_pass : RattleType
  log_pass =
      pass.the_row (work.the_row D disks) listed.the_row
      (list.the_row patch.the_row global.the_row ghosts) fixed.the_row placed.the_row
      (log_work disks) log_list

  -- the part of a slot ends as what is last written there, and the others as they were
  abbrev pub LendsPart : MutBor (List LogSight) → ℕ → MutBor LogSight → Fml
  LendsPart before slot part =
      Lends (parts.the_row D disks) log_pass before part (slice_set before.now (slot - 1))
