use Rattle.std.proofs.Common.{◌+◌, arith}
use Rattle.canonical_scan.proofs.Terms.{blank_there}
use Rattle.canonical_scan.proofs.term.blank_end.Goals as goal

pub returns-then-is_spaced : goal.returns-then-is_spaced
returns-then-is_spaced c =
    blank_there c.args.text.now c.args.at (c.args.at + 1) (c.args.at + 2) c.in_ok-end.end (omega arith) (omega arith) (omega arith) (omega arith) (omega arith) c.in_ok-end.ensures (c.is_spaced.ensures c.if-is_spaced.true)
