use Rattle.std.proofs.Common.{◌≡◌, ◌≤◌, ◌+◌, ◌++◌, vec_len, vec_capacity}
use Rattle.std.specs.Prelude.{reverse}
use Rattle.gate_crews.proofs.gates.lay_aside.Given as goal

abbrev pub invariant-loop-gates : goal.invariant-loop-gates
invariant-loop-gates g l = record {
  gates : l.initial.gates.items ≡ l.gates.items ++ reverse l.idle.items;
  some : l.workers ≤ vec_len l.gates;
  room : vec_len l.gates + vec_len l.idle ≤ vec_capacity l.idle;
  capacity : vec_capacity l.idle ≡ vec_capacity l.initial.idle;
}

abbrev pub decreases-loop-gates : goal.decreases-loop-gates
decreases-loop-gates g l = vec_len l.gates
