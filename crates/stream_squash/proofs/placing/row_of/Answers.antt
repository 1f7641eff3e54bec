use Rattle.std.proofs.Common.{drop, subst, inr, arith}
use Rattle.patch_rows.specs.Fault.{RowFailsBy}
use Rattle.patch_rows.specs.Faults.{FirstFault}
use Rattle.patch_rows.specs.declared.fault.RowFault.{RowFault}
use Rattle.stream_squash.proofs.placing.row_of.Goals as goal

pub returns-in-Err-At-clause-fault : goal.returns-in-Err-At-clause-fault
returns-in-Err-At-clause-fault c = λ from gap.
    let text = c.args.text.now in
    let no_row = subst (λ (e : RowFault). RowFailsBy (FirstFault (drop c.args.at text)) text e) c.in-Err-At.field-0-is c.in-Err-At.ensures.fault in
    inr (c.args.at, c.in-Err-At.place, c.in-Err-At.kind, gap, (omega (arith, c.requires.within), no_row.0, no_row.1), c.break_stream.ensures.fault)
