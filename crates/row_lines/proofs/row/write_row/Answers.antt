use Rattle.std.proofs.Common.{◌+◌, ◌≤◌, length, arith}
use Rattle.patch_rows.specs.Grammar.{row_limit}
use Rattle.row_lines.proofs.Rows.{row_written}
use Rattle.row_lines.proofs.row.write_row.Goals as goal

pub returns-in-Ok : goal.returns-in-Ok
returns-in-Ok c =
    let few = c.if-text-at-gt-ROW_LIMIT.false in
    let short : length c.args.text.now ≤ c.args.at + row_limit = omega (arith, c.requires) in
    row_written c.args.text.now c.clear.new.self.items c.write_quad.new.out.items c.args.at c.in-Some.behind c.in-Ok.end c.in-Some.adds c.clear.ensures.items c.requires short c.in-Some.ensures c.in-Ok.ensures
