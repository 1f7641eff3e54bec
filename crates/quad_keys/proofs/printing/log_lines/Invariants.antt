use Rattle.std.proofs.Common.{◌≡◌, length, map}
use Rattle.line_log.specs.Edits.{made}
use Rattle.rdf_terms.specs.Line.{line}
use Rattle.quad_keys.specs.Keys.{quads_of}
use Rattle.quad_keys.proofs.Taken.{TakenSoFar}
use Rattle.quad_keys.proofs.printing.log_lines.Given as goal

abbrev pub invariant-keys : goal.invariant-keys
invariant-keys l = TakenSoFar l.terms (λ taken. made l.log ≡ map line (quads_of l.terms taken)) l.fn.keys.items l.keys.items

abbrev pub decreases-keys : goal.decreases-keys
decreases-keys l = length l.keys.items
