use Rattle.std.proofs.Common.{◌+◌, arith}
use Rattle.std.proofs.lemmas.Bool.{ne_eqb}
use Rattle.canonical_scan.proofs.Terms.{spaced_there}
use Rattle.canonical_scan.proofs.term.is_spaced.Goals as goal

pub returns : goal.returns
returns c = λ _. spaced_there c.args.text.now c.args.at (c.args.at + 1) (c.args.at + 2) (omega arith) (omega arith) (omega arith) (omega arith) (ne_eqb _ 32 c.if-b-eq32.false)
    (ne_eqb _ 9 c.if-b-eq9.false) (ne_eqb _ 94 c.if-b-eq94.false)
