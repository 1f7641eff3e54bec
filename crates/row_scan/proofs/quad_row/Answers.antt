use Rattle.row_scan.proofs.Rows.{some_quad}
use Rattle.row_scan.proofs.quad_row.Goals as goal

pub returns : goal.returns
returns c = some_quad c.args.text.now c.args.at c.in_ok-row.row c.in_ok-row._places c.in_ok-row.ensures
