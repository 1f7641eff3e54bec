use Rattle.std.proofs.Common.{◌≡◌, ◌≤◌, vec_len}
use Rattle.rdfdelta.proofs.gates_over.Given as goal

abbrev pub invariant-loop-place : goal.invariant-loop-place
invariant-loop-place g l = (vec_len l.gates ≡ l.place) × (l.place ≤ 16)
