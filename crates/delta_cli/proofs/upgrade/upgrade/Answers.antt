use Rattle.std.proofs.Common.{sym, subst}
use Rattle.command_tables.specs.Views.{output_view, shelf_view}
use Rattle.directory_upgrade.specs.Directories.{IsUpgradedDirectory, StopsUpgrade}
use Rattle.delta_cli.specs.Upgrades.{StopsUpgrading}
use Rattle.delta_cli.proofs.Printed.{err_weaker}
use Rattle.delta_cli.proofs.Upgrading.{printing_stops, upgrade_stops}
use Rattle.delta_cli.proofs.upgrade.upgrade.Goals as goal

pub returns-in-Ok-clause-stopped : goal.returns-in-Ok-clause-stopped
returns-in-Ok-clause-stopped g c =
    err_weaker c.print_upgraded.result _ _
    (printing_stops g.H.Shelf.tells (IsUpgradedDirectory c.args.dir.now) (StopsUpgrade c.args.dir.now) (shelf_view g.H.Shelf c.args.shelf.now) (shelf_view g.H.Shelf c.upgrade_directory.new.shelf) c.in-Ok.done c.in-Ok.ensures.done
    (output_view g.K.Sink c.args.out.now) (output_view g.K.Sink c.print_upgraded.new.out))
    c.print_upgraded.ensures.stopped

pub returns-in-Err-clause-stopped : goal.returns-in-Err-clause-stopped
returns-in-Err-clause-stopped g c =
    let old = shelf_view g.H.Shelf c.args.shelf.now in
    let new = shelf_view g.H.Shelf c.upgrade_directory.new.shelf in
    let out = output_view g.K.Sink c.args.out.now in
    subst (StopsUpgrading g.H.Shelf.tells (IsUpgradedDirectory c.args.dir.now) (StopsUpgrade c.args.dir.now) old new out out) (sym c.of_check.ensures)
    (upgrade_stops g.H.Shelf.tells (IsUpgradedDirectory c.args.dir.now) (StopsUpgrade c.args.dir.now) old new out c.upgrade_directory.result c.in-Err.fault c.in-Err.is c.in-Err.ensures.stopped c.upgrade_directory.ensures.cause)
