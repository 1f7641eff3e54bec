use Rattle.std.proofs.Common.{sym, subst, drop}
use Rattle.patch_rows.specs.Fault.{RowFails}
use Rattle.patch_rows.specs.declared.fault.RowFault.{RowFault}
use Rattle.patch_reader.specs.Limit.{front_row_at}
use Rattle.patch_reader.proofs.FrontSteps.{front_found, front_full, within}
use Rattle.patch_reader.proofs.reading.front_row.Goals as goal

pub returns-then-end-front : goal.returns-then-end-front
returns-then-end-front c = subst (λ (e : RowFault). RowFails c.args.text.now e (front_row_at (drop c.args.at c.args.text.now))) (sym c.at.ensures)
    (front_full c.args.text.now c.front_of-front.result.now c.args.at c.in-Ok.end c.in-Ok.row c.requires.long c.front_of-front.ensures c.in-Ok.ensures.0 c.if-end-front.true, c.requires.low)

pub returns-else-end-front : goal.returns-else-end-front
returns-else-end-front c = (
  front_found c.args.text.now c.front_of-front.result.now c.args.at c.in-Ok.end c.in-Ok.row c.requires.long c.front_of-front.ensures c.in-Ok.ensures.0 c.in-Ok.ensures.1 c.if-end-front.false,
  within c.args.text.now c.front_of-front.result.now c.args.at c.in-Ok.end c.requires.long c.front_of-front.ensures c.in-Ok.ensures.1,
)
