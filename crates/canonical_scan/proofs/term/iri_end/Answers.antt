use Rattle.std.proofs.Common.{arith}
use Rattle.canonical_scan.proofs.Terms.{iri_there}
use Rattle.canonical_scan.proofs.term.iri_end.Goals as goal

pub returns : goal.returns
returns c = iri_there c.args.text.now c.args.at c.in_ok-close.close (omega arith) (omega arith) c.in_ok-close.ensures
