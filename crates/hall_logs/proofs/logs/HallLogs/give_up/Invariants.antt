use Rattle.std.proofs.Common.{◌≡◌, ◌≤◌, ◌+◌, ◌++◌, map, vec_len, vec_capacity}
use Rattle.std.specs.Prelude.{reverse}
use Rattle.hall_logs.proofs.Still.{GivingUp}
use Rattle.hall_logs.proofs.logs.HallLogs.give_up.Given as goal

abbrev pub invariant-loop-log : goal.invariant-loop-log
invariant-loop-log g l = record {
  giving : GivingUp g.D.Disk (map (λ log. log.origin) l.fn.self.logs ++ reverse l.fn.opened.items) l.opened.items l.disks.items;
  capacity : vec_capacity l.disks ≡ l.fn.rooms.disks;
  room : vec_len l.disks + vec_len l.opened ≤ vec_capacity l.disks;
}

abbrev pub decreases-loop-log : goal.decreases-loop-log
decreases-loop-log g l = vec_len l.opened
