use Rattle.std.proofs.Common.{◌≡◌, ◌≤◌, ◌+◌, ◌++◌, map, vec_len, vec_capacity}
use Rattle.std.specs.Prelude.{reverse}
use Rattle.zone_session.specs.Sessions.{WorkerView}
use Rattle.zone_session.proofs.serving.dismiss.Given as goal

abbrev pub invariant-loop-worker : goal.invariant-loop-worker
invariant-loop-worker g l = record {
  passes : map (λ (worker : WorkerView g.row.D.Denot g.row.N.Denot). worker.seat.pass) l.initial.workers.items ≡ map (λ (worker : WorkerView g.row.D.Denot g.row.N.Denot). worker.seat.pass) l.workers.items ++ reverse l.passes.items;
  room : vec_len l.passes + vec_len l.workers ≤ vec_capacity l.passes;
}

abbrev pub decreases-loop-worker : goal.decreases-loop-worker
decreases-loop-worker g l = vec_len l.workers
