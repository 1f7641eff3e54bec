use Rattle.std.proofs.Common.{arith, rules}
use Rattle.std.proofs.lemmas.Grind.{common_steps}
use Rattle.std.proofs.lemmas.List.Elements.{All-more}
use Rattle.nquads_documents.specs.Laws.{IsQuadValue}
use Rattle.nquads_documents.proofs.printing.lines_of.Goals as goal

pub loop-quad-preserved : goal.loop-quad-preserved
loop-quad-preserved c = (
  grind (arith, common_steps),
  All-more IsQuadValue c.args.quads.now c.loop-quad.quad-index c.quad-item.result (omega (arith, c.loop-quad-test.true)) c.loop-quad.invariant.1 (search (rules, c.in_ok-line_of.ensures.value)),
)
