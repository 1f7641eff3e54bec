use Rattle.std.proofs.Common.{length, ◌-◌}
use Rattle.rdf_terms.specs.Tag.{IsTag}
use Rattle.canonical_scan.specs.Parts.{Between}
use Rattle.canonical_scan.proofs.tags.tag_end.Given as goal

abbrev pub invariant-loop-end : goal.invariant-loop-end
invariant-loop-end l = Between IsTag l.text l.at l.end

abbrev pub decreases-loop-end : goal.decreases-loop-end
decreases-loop-end l = length l.text - l.end
