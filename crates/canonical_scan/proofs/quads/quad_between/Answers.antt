use Rattle.std.proofs.Common.{sym, subst}
use Rattle.canonical_scan.specs.Found.{IsLineThere}
use Rattle.canonical_scan.proofs.Lines.{line_of}
use Rattle.canonical_scan.proofs.quads.quad_between.Goals as goal

pub returns : goal.returns
returns c =
    subst (IsLineThere c.args.text.now c.args.at c.args.places.end) (sym c.of_checked.ensures)
    (line_of c.args.text.now c.args.at c.args.places c.in_ok-subject.subject c.in_ok-object.object c.in_ok-predicate.predicate c.in_ok-graph.graph c.requires.places c.in_ok-subject.ensures
    c.in_ok-predicate.ensures c.in_ok-object.ensures c.in_ok-graph.ensures)
