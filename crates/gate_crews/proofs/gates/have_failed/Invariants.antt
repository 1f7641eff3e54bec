use Rattle.std.proofs.Common.{◌≡◌, ◌≤◌, List, map, length}
use Rattle.gate_crews.proofs.Risen.{NoneUpTo}
use Rattle.gate_crews.proofs.gates.have_failed.Given as goal

-- none of the gates before this place has failed
abbrev pub invariant-loop-place : goal.invariant-loop-place
invariant-loop-place g l = record {
  none : (before : List g.row.G.Denot) (counted : l.counts ≡ map (λ gate. g.G.Gate.faults gate) before) (same : length l.counts ≡ length l.gates)
      → NoneUpTo (λ gate. g.G.Gate.faults gate) l.counts before l.gates counted same l.place;
  bound : l.place ≤ length l.counts;
}
