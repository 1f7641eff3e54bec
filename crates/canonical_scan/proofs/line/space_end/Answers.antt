use Rattle.std.proofs.Common.{◌+◌, arith}
use Rattle.canonical_scan.proofs.Lines.{space_there}
use Rattle.canonical_scan.proofs.line.space_end.Goals as goal

pub returns : goal.returns
returns c = space_there c.args.text.now c.args.at (c.args.at + 1) (omega arith) (omega arith) (omega arith)
