use Rattle.std.proofs.Common.{◌≡◌, ◌++◌, ◌≤◌, length}
use Rattle.std.specs.Prelude.{count_by}
use Rattle.std.specs.Vec.Iter.{into_iter_items}
use Rattle.delta_base.specs.Outside.{RoseBy}
use Rattle.disk_model.specs.Past.{LeavesOnly}
use Rattle.patch_log.specs.Run.{AppendedAll, GrowsBy, HoldsInSeries, is_disk_fault}
use Rattle.patch_log.proofs.appending.append_all.Given as goal

abbrev pub invariant-loop-run : goal.invariant-loop-run
invariant-loop-run g l = record {
  so_far : AppendedAll g.D.Disk l.by l.fn.log l.yielded l.answers.items l.log;
  rest : l.yielded ++ into_iter_items l.run-iterator ≡ l.fn.runs.items;
  grown : GrowsBy l.by l.fn.log.entries l.log.entries;
  any_moment : g.D.Disk.tells → LeavesOnly (HoldsInSeries g.D.Disk l.by l.fn.log l.fn.runs.items) (g.D.Disk.past l.fn.log.disk) (g.D.Disk.past l.log.disk);
  cause : RoseBy (count_by is_disk_fault l.answers.items) (g.D.Disk.faults l.fn.log.disk) (g.D.Disk.faults l.log.disk);
  faults : g.D.Disk.faults l.fn.log.disk ≤ g.D.Disk.faults l.log.disk;
  limits : l.log.limits ≡ l.fn.log.limits;
  number : l.log.number ≡ l.fn.log.number;
  mark : g.D.Disk.mark l.log.disk ≡ g.D.Disk.mark l.fn.log.disk;
  room : length (into_iter_items l.run-iterator) ≤ l.answers.spare;
}
