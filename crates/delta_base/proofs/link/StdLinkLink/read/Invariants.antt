use Rattle.std.proofs.Common.{◌≡◌, length}
use Rattle.delta_base.proofs.link.StdLinkLink.read.Given as goal

abbrev pub invariant-loop : goal.invariant-loop
invariant-loop g l =
    (length l.into ≡ length l.initial.into) × (l.self-inside.faults ≡ l.initial.self-inside.faults)
