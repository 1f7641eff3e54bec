use Rattle.std.proofs.Common.{◌≡◌, ◌≤◌, ◌+◌, ◌++◌, vec_len, vec_capacity}
use Rattle.std.specs.Prelude.{reverse}
use Rattle.turn_cell.specs.Turns.{AllOf}
use Rattle.delta_session.specs.Halls.{IsHallPass}
use Rattle.delta_session.specs.Steps.{HallSight}
use Rattle.delta_session.specs.Working.{workers_of}
use Rattle.delta_session.proofs.serving.engage.Given as goal

abbrev pub invariant-loop-pass : goal.invariant-loop-pass
invariant-loop-pass g l = record {
  of : AllOf (λ (pass : HallSight). IsHallPass g.D.Disk l.hall pass.lists) l.passes.items;
  workers : workers_of l.hall l.initial.passes.items ≡ workers_of l.hall l.passes.items ++ reverse l.workers.items;
  room : vec_len l.workers + vec_len l.passes ≤ vec_capacity l.workers;
  passes_room : vec_capacity l.passes ≡ vec_capacity l.initial.passes;
}

abbrev pub decreases-loop-pass : goal.decreases-loop-pass
decreases-loop-pass g l = vec_len l.passes
