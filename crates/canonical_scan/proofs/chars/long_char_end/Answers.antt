use Rattle.canonical_scan.proofs.Pieces.{long_there}
use Rattle.canonical_scan.proofs.chars.long_char_end.Goals as goal

pub returns-in-Ok-clause-long : goal.returns-in-Ok-clause-long
returns-in-Ok-clause-long c =
    let here = c.in-Ok.ensures in
    long_there c.args.text.now c.args.at c.in-Ok.next _ here.further here.gives.1 c.if-text-at-lt128.false here.gives.0
