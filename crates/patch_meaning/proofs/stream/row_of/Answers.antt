use Rattle.std.proofs.Common.{Err, subst, inr}
use Rattle.patch_rows.specs.declared.fault.RowFault.{RowFault}
use Rattle.patch_meaning.specs.Next.{IsNextRead}
use Rattle.patch_meaning.proofs.stream.row_of.Goals as goal

pub returns-in-Err-At-clause-fault : goal.returns-in-Err-At-clause-fault
returns-in-Err-At-clause-fault c = λ from gap.
    let is = subst (λ (e : RowFault). IsNextRead c.args.text.now from (Err e)) c.in-Err-At.field-0-is (c.in-Err-At.ensures from gap) in
    inr (is.0, c.in-Err-At.place, c.in-Err-At.kind, is.1, is.2, c.break_stream.ensures.fault)
