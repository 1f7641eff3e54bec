use Rattle.std.proofs.Common.{◌≡◌, map, take}
use Rattle.gate_crews.proofs.gates.counts.Given as goal

abbrev pub invariant-loop-gate : goal.invariant-loop-gate
invariant-loop-gate g l = l.counts.items ≡ map (λ gate. g.G.Gate.faults gate) (take l.gate-index l.gates)
