use Rattle.std.proofs.Common.{◌≡◌, List, []}
use Rattle.rdf_terms.specs.Line.{line}
use Rattle.rdf_terms.specs.Quad.{Statement}
use Rattle.nquads_documents.specs.Laws.{IsQuadValue}
use Rattle.checkpoint_reading.specs.Front.{RiseInFront}
use Rattle.checkpoint_reading.specs.Reading.{HasNewQuads}
use Rattle.checkpoint_reading.proofs.Fronts.{last_text}
use Rattle.checkpoint_reading.proofs.quads.read_quads.Given as goal

abbrev pub invariant-loop-place : goal.invariant-loop-place
invariant-loop-place l = (quads : List Statement)
    × RiseInFront line IsQuadValue l._place l.text quads l.rest
    × (l.last ≡ last_text line quads)
    × HasNewQuads l.fn.contents l.contents quads
    × (l.changes.items ≡ [])
