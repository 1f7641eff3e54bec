use Rattle.canonical_scan.proofs.Lines.{places_there}
use Rattle.canonical_scan.proofs.line.line_places.Goals as goal

pub returns : goal.returns
returns c =
    places_there c.args.text.now c.args.at c.in_ok-subject.subject c.in_ok-second.second c.in_ok-predicate.predicate c.in_ok-third.third c.in_ok-object.object c.in_ok-graph.graph c.in_ok-end.end
    c.in_ok-subject.ensures c.in_ok-second.ensures c.in_ok-predicate.ensures c.in_ok-third.ensures c.in_ok-object.ensures c.in_ok-graph.ensures c.in_ok-end.ensures
