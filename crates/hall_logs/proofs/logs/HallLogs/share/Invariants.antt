use Rattle.std.proofs.Common.{◌≡◌, ◌+◌, length, vec_len}
use Rattle.std.specs.Prelude.{reverse}
use Rattle.turn_cell.specs.Turns.{AllOf}
use Rattle.hall_logs.specs.Files.{IsFresh}
use Rattle.hall_logs.proofs.Shares.{Sharing}
use Rattle.hall_logs.proofs.logs.HallLogs.share.Given as goal

abbrev pub invariant-loop-log : goal.invariant-loop-log
invariant-loop-log g l = record {
  sharing : Sharing g.D.Disk (reverse l.fn.opened.items) l.hall l.opened.items l.passes.items;
  seats : l.hall.seats ≡ l.fn.self.seats;
  left : length l.hall.logs + vec_len l.opened ≡ vec_len l.fn.opened;
  fresh : AllOf (IsFresh g.D.Disk) l.opened.items;
  lists : l.lists.count ≡ length l.hall.logs;
  width : l.lists.width ≡ l.fn.self.seats;
}

abbrev pub decreases-loop-log : goal.decreases-loop-log
decreases-loop-log g l = vec_len l.opened
