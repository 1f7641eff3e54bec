use Rattle.std.proofs.Common.{◌≡◌, ◌≤◌, ◌-◌, ◌++◌, length, drop}
use Rattle.std.specs.List.{flat_map}
use Rattle.rdf_terms.specs.Line.{escaped}
use Rattle.nquads_text.proofs.printing.push_escapes.Given as goal

-- what was written, and what is written of the rest, is what is written of all
abbrev pub invariant-loop-at : goal.invariant-loop-at
invariant-loop-at l = (l.out.items ++ flat_map escaped (drop l.at l.text) ≡ l.fn.out.items ++ flat_map escaped l.text) × (l.at ≤ length l.text)

abbrev pub decreases-loop-at : goal.decreases-loop-at
decreases-loop-at l = length l.text - l.at
