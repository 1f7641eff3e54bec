-- A log as the two values of a twin: its list, and the work behind it.
use Rattle.std.specs.Prelude.{List, []}
use Rattle.disk_model.specs.declared.disk.Disk.{Ghosts}
use Rattle.log_journal.specs.StandsFor.{disk_of}
use Rattle.chain_core.specs.declared.chain.Patch.{Patch}
use Rattle.patch_log.specs.Tail.{StandsForChain, log_of}
use Rattle.twin_cell.specs.declared.parts.Listed.{Ghosts as Lists}
use Rattle.twin_cell.specs.declared.parts.Backed.{Ghosts as Works}
use Rattle.shared_log.specs.declared.value.LogFixed.{LogFixed}
use Rattle.shared_log.specs.declared.value.LogList.{LogList}
use Rattle.shared_log.specs.declared.value.LogWork.{LogWork}
use Rattle.shared_log.specs.declared.value.Placed.{Placed}
use Rattle.shared_log.specs.History.{history_of, entries_known, fixed_of, MayBeSeen}

-- the list as a value of a twin
abbrev pub log_list : Lists LogList Placed
log_list = record {
  entries = λ list. history_of list.chain.items;
  spare = λ list. list.chain.spare;
  fits = MayBeSeen;
}

-- the work as a value of a twin
abbrev pub log_work : {D : Type 0} (disks : Ghosts D)
    → Works (LogWork D disks) LogList (List Patch) LogFixed Placed
log_work disks = record {
  stands = λ work history. StandsForChain work.tail (entries_known history);
  fault_count = λ work. disks.faults (disk_of work.tail.journal);
  doubt = λ work. work.tail.doubt;
  fixed = λ work. fixed_of disks.mark (log_of work.tail [] 0);
}
