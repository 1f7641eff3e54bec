use Rattle.std.proofs.Common.{arith}
use Rattle.canonical_scan.proofs.Terms.{language_there}
use Rattle.canonical_scan.proofs.literals.language_end.Goals as goal

pub returns : goal.returns
returns c = language_there c.args.text.now c.args.at c.tag_end.result (omega arith) (omega arith) c.tag_end.ensures
