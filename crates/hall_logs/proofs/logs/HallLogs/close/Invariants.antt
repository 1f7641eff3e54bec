use Rattle.std.proofs.Common.{◌≡◌, ◌≤◌, ◌+◌, vec_len, vec_capacity}
use Rattle.hall_logs.proofs.Ending.{Closing}
use Rattle.hall_logs.proofs.logs.HallLogs.close.Given as goal

abbrev pub invariant-loop-log : goal.invariant-loop-log
invariant-loop-log g l = record {
  closing : Closing g.D.Disk l.fn.self.logs l.fn.self.seats l.fn.passes.items l.logs.items l.passes.items l.disks.items;
  capacity : vec_capacity l.disks ≡ l.fn.rooms.disks;
  room : vec_len l.disks + vec_len l.logs ≤ vec_capacity l.disks;
  lists : vec_len l.logs ≤ l.lists.count;
  width : l.fn.self.seats ≤ l.lists.width;
}

abbrev pub decreases-loop-log : goal.decreases-loop-log
decreases-loop-log g l = vec_len l.logs
