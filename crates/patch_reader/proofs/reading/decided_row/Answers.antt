use Rattle.std.proofs.Common.{sym, subst, ◌∙◌, drop}
use Rattle.patch_rows.specs.Fault.{RowFails}
use Rattle.patch_rows.specs.declared.fault.RowFault.{RowFault}
use Rattle.patch_rows.specs.Rows.{live_row}
use Rattle.patch_reader.proofs.Answered.{fault_there}
use Rattle.patch_reader.proofs.reading.decided_row.Goals as goal

pub returns-else-ends : goal.returns-else-ends
returns-else-ends c =
    let there = subst (λ (e : RowFault). RowFails c.args.text.now e (live_row (drop c.args.at c.args.text.now))) c.in-Err-At.field-0-is c.in-Err-At.ensures in
    fault_there c.args.text.now c.args.at c.in-Err-At.place c.in-Err-At.kind (c.is_long.ensures.short c.if-is_long.false) there.1 there.0 (sym c.ends.ensures ∙ c.if-ends.false)
