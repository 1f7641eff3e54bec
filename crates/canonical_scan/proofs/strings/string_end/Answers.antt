use Rattle.std.proofs.Common.{arith}
use Rattle.canonical_scan.proofs.Terms.{string_there}
use Rattle.canonical_scan.proofs.strings.string_end.Goals as goal

pub returns-then-text-end-eq34 : goal.returns-then-text-end-eq34
returns-then-text-end-eq34 c = string_there c.args.text.now c.args.at c.string_chars_end-end.result (omega arith) (omega arith) c.string_chars_end-end.ensures (omega arith) (omega arith)
