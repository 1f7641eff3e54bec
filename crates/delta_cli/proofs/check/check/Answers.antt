use Rattle.std.proofs.Common.{sym, subst}
use Rattle.delta_cli.specs.Tool.{StopsCheck}
use Rattle.command_tables.specs.Views.{output_view, shelf_view}
use Rattle.delta_cli.proofs.Checked.{check_stops}
use Rattle.delta_cli.proofs.check.check.Goals as goal

pub returns-in-Err-clause-stopped : goal.returns-in-Err-clause-stopped
returns-in-Err-clause-stopped g c =
    let old = shelf_view g.H.Shelf c.args.shelf.now in
    let new = shelf_view g.H.Shelf c.check_files.new.shelf in
    let out = output_view g.K.Sink c.args.out.now in
    subst (StopsCheck c.args.dir.now g.H.Shelf.tells old new out out) (sym c.of_check.ensures)
    (check_stops c.args.dir.now g.H.Shelf.tells old new out c.check_files.result c.in-Err.fault c.in-Err.is c.in-Err.ensures.fault c.check_files.ensures.cause)
