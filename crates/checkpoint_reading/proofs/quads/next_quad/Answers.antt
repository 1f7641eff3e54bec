use Rattle.std.proofs.Common.{sym, ◌∙◌}
use Rattle.rdf_terms.specs.Line.{line}
use Rattle.nquads_documents.specs.Laws.{IsQuadValue}
use Rattle.checkpoint_text.proofs.OneText.{quad_cut}
use Rattle.checkpoint_reading.proofs.Fronts.{not_behind}
use Rattle.checkpoint_reading.proofs.quads.next_quad.Goals as goal

pub returns-else-is_lt-clause-broken : goal.returns-else-is_lt-clause-broken
returns-else-is_lt-clause-broken c = λ broken.
    let here = c.in_ok-quad.ensures.ok in
    not_behind line IsQuadValue quad_cut c.args.text.now c.args.last.now c.front_of.result.now c.in_ok-quad.quad c.in_ok-quad.rest.now c.cmp.result here (c.front_of.ensures (line c.in_ok-quad.quad) here.parts) c.cmp.ensures (sym c.is_lt.ensures ∙ c.if-is_lt.false)
