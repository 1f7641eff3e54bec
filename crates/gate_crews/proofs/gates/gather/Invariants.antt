use Rattle.std.proofs.Common.{◌≡◌, ◌≤◌, ◌+◌, ◌++◌, vec_len, vec_capacity}
use Rattle.std.specs.Prelude.{reverse}
use Rattle.gate_crews.proofs.gates.gather.Given as goal

abbrev pub invariant-loop-gate : goal.invariant-loop-gate
invariant-loop-gate g l = record {
  gates : l.fn.worked.items ++ reverse l.fn.idle.items ≡ l.worked.items ++ reverse l.all.items;
  room : vec_len l.worked + vec_len l.all ≤ vec_capacity l.all;
}

abbrev pub decreases-loop-gate : goal.decreases-loop-gate
decreases-loop-gate g l = vec_len l.worked
