use Rattle.std.proofs.Common.{length, ◌-◌}
use Rattle.canonical_scan.specs.Parts.{Between, InIri}
use Rattle.canonical_scan.proofs.iris.iri_chars_end.Given as goal

abbrev pub invariant-loop-next : goal.invariant-loop-next
invariant-loop-next l = Between InIri l.text l.from l.at

abbrev pub decreases-loop-next : goal.decreases-loop-next
decreases-loop-next l = length l.text - l.at
