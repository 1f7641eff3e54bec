use Rattle.std.proofs.Common.{sym, subst}
use Rattle.delta_cli.specs.Tool.{StopsInit}
use Rattle.command_tables.specs.Views.{shelf_view}
use Rattle.delta_cli.proofs.Made.{init_stops}
use Rattle.delta_cli.proofs.init.init.Goals as goal

pub returns-in-Err-clause-stopped : goal.returns-in-Err-clause-stopped
returns-in-Err-clause-stopped g c =
    let old = shelf_view g.H.Shelf c.args.shelf.now in
    let new = shelf_view g.H.Shelf c.init_slots.new.shelf in
    subst (StopsInit c.args.dir.now c.args.slots g.H.Shelf.tells old new) (sym c.of_init.ensures)
    (init_stops c.args.dir.now g.H.Shelf.tells old new c.args.slots c.init_slots.result c.in-Err.fault c.in-Err.is c.init_slots.ensures.not_empty c.init_slots.ensures.cause)
