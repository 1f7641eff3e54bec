use Rattle.canonical_scan.proofs.Lines.{line_there}
use Rattle.canonical_scan.proofs.line.line_end.Goals as goal

pub returns : goal.returns
returns c = line_there c.args.text.now c.args.at c.in_ok-places.places c.in_ok-places.ensures
