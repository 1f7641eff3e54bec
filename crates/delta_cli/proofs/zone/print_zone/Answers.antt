use Rattle.std.proofs.Common.{sym, subst}
use Rattle.command_tables.specs.Views.{output_view, shelf_view}
use Rattle.delta_cli.specs.Zones.{StopsZone}
use Rattle.delta_cli.proofs.Made.{printing_stops, reading_stops}
use Rattle.delta_cli.proofs.Printed.{err_weaker}
use Rattle.delta_cli.proofs.zone.print_zone.Goals as goal

pub returns-in-Ok-clause-stopped : goal.returns-in-Ok-clause-stopped
returns-in-Ok-clause-stopped g c =
    err_weaker c.print_made.result _ _
    (printing_stops c.args.dir.now g.H.Shelf.tells (shelf_view g.H.Shelf c.args.shelf.now) (shelf_view g.H.Shelf c.read_zone.new.shelf) c.args.reading.now c.in-Ok.lines c.in-Ok.ensures.ok
    (output_view g.K.Sink c.args.out.now) (output_view g.K.Sink c.print_made.new.out))
    c.print_made.ensures.stopped

pub returns-in-Err-clause-stopped : goal.returns-in-Err-clause-stopped
returns-in-Err-clause-stopped g c =
    let old = shelf_view g.H.Shelf c.args.shelf.now in
    let new = shelf_view g.H.Shelf c.read_zone.new.shelf in
    let out = output_view g.K.Sink c.args.out.now in
    subst (StopsZone c.args.dir.now c.args.reading.now g.H.Shelf.tells old new out out) (sym c.of_pair.ensures)
    (reading_stops c.args.dir.now g.H.Shelf.tells old new c.args.reading.now out c.read_zone.result c.in-Err.fault c.in-Err.is c.in-Err.ensures.fault c.read_zone.ensures.cause)
