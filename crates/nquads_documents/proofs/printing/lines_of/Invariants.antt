use Rattle.std.proofs.Common.{◌≡◌, map, take}
use Rattle.std.specs.List.{All}
use Rattle.rdf_terms.specs.Line.{line}
use Rattle.nquads_documents.specs.Laws.{IsQuadValue}
use Rattle.nquads_documents.proofs.printing.lines_of.Given as goal

-- the lines of the quads so far, each of which is a value
abbrev pub invariant-loop-quad : goal.invariant-loop-quad
invariant-loop-quad l = (map (λ v. v.items) l.lines.items ≡ map line (take l.quad-index l.quads)) × All IsQuadValue (take l.quad-index l.quads)
