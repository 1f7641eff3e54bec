use Rattle.std.proofs.Common.{arith}
use Rattle.std.proofs.lemmas.Bool.{ne_eqb}
use Rattle.canonical_scan.proofs.AsciiLabels.{label_there}
use Rattle.canonical_scan.proofs.labels.label_end.Goals as goal

pub returns : goal.returns
returns c =
    let run = c.label_bytes_end-end in
    label_there c.args.text.now c.args.at run.result (omega arith) run.ensures.high run.ensures.all (ne_eqb _ 45 c.if-text-at-eq45.false) (ne_eqb _ 46 c.if-text-at-eq46.false)
    (ne_eqb _ 46 c.if-text-end-eq46.false)
