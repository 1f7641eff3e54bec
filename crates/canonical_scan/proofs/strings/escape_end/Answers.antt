use Rattle.std.proofs.Common.{◌+◌, arith}
use Rattle.canonical_scan.proofs.Pieces.{escape_there}
use Rattle.canonical_scan.proofs.strings.escape_end.Goals as goal

pub returns-clause-escape : goal.returns-clause-escape
returns-clause-escape c =
    let byte = c.in_ok-_byte in
    escape_there c.args.text.now c.args.at (c.args.at + 2) byte._byte (omega arith) (omega arith) (omega arith) byte.ensures.low byte.ensures.is
