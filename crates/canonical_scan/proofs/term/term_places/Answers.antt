use Rattle.canonical_scan.proofs.Lines.{node_places}
use Rattle.canonical_scan.proofs.term.term_places.Goals as goal

pub returns : goal.returns
returns c = node_places c.args.text.now c.args.at c.in_ok-end.end c.in_ok-end.ensures
