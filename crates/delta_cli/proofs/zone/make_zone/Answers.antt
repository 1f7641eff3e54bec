use Rattle.std.proofs.Common.{sym, subst}
use Rattle.command_tables.specs.Views.{shelf_view}
use Rattle.delta_cli.specs.Zones.{StopsMaking}
use Rattle.delta_cli.proofs.Made.{making_stops}
use Rattle.delta_cli.proofs.zone.make_zone.Goals as goal

pub returns-in-Err-clause-stopped : goal.returns-in-Err-clause-stopped
returns-in-Err-clause-stopped g c =
    let old = shelf_view g.H.Shelf c.args.shelf.now in
    let new = shelf_view g.H.Shelf c.format_file.new.shelf in
    subst (StopsMaking c.args.dir.now g.H.Shelf.tells old new) (sym c.of_init.ensures)
    (making_stops c.args.dir.now g.H.Shelf.tells old new c.format_file.result c.in-Err.fault c.in-Err.is c.format_file.ensures.not_empty c.format_file.ensures.cause)
