use Rattle.std.proofs.Common.{◌+◌, arith}
use Rattle.canonical_scan.proofs.Lines.{dot_there}
use Rattle.canonical_scan.proofs.line.dot_end.Goals as goal

pub returns : goal.returns
returns c =
    dot_there c.args.text.now c.args.at (c.args.at + 1) (c.args.at + 2) (c.args.at + 3) (omega arith) (omega arith) (omega arith) (omega arith) (omega arith) (omega arith) (omega arith)
