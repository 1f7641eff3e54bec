use Rattle.std.proofs.Common.{◌+◌, sym, ◌∙◌, arith}
use Rattle.canonical_scan.proofs.Terms.{datatype_there}
use Rattle.canonical_scan.proofs.literals.datatype_end.Goals as goal

pub returns-then-is_datatype : goal.returns-then-is_datatype
returns-then-is_datatype c =
    datatype_there c.args.text.now c.args.at (c.args.at + 1) (c.args.at + 2) (c.args.at + 3) c.in_ok-close.close (omega arith) (omega arith) (omega arith) (omega arith) (omega arith) (omega arith) (omega arith)
    c.in_ok-close.ensures (sym c.is_datatype.ensures ∙ c.if-is_datatype.true)
