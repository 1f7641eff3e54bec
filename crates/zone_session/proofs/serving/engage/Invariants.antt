use Rattle.std.proofs.Common.{◌≡◌, ◌≤◌, ◌+◌, ◌++◌, length, vec_len, vec_capacity}
use Rattle.std.specs.Prelude.{reverse}
use Rattle.turn_cell.specs.Turns.{AllOf}
use Rattle.turn_cell.specs.Sharing.{IsPassOf}
use Rattle.shared_zone.specs.History.{shared_zone}
use Rattle.zone_session.specs.Working.{workers_of}
use Rattle.zone_session.proofs.serving.engage.Given as goal

abbrev pub invariant-loop-pass : goal.invariant-loop-pass
invariant-loop-pass g l = record {
  of : AllOf (IsPassOf (shared_zone g.D.Disk) l.hall) l.passes.items;
  count : length l.nets.items ≡ length l.passes.items;
  workers : workers_of l.hall l.address l.name l.initial.passes.items l.initial.nets.items ≡ workers_of l.hall l.address l.name l.passes.items l.nets.items ++ reverse l.workers.items;
  room : vec_len l.workers + vec_len l.passes ≤ vec_capacity l.workers;
  passes_room : vec_capacity l.passes ≡ vec_capacity l.initial.passes;
}

abbrev pub decreases-loop-pass : goal.decreases-loop-pass
decreases-loop-pass g l = vec_len l.passes
