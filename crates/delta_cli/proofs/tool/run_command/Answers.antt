use Rattle.std.proofs.Common.{sym, subst}
use Rattle.delta_cli.specs.Tool.{Stops}
use Rattle.delta_cli.specs.Views.{outside_of}
use Rattle.delta_cli.specs.declared.command.Command.{Command}
use Rattle.delta_cli.proofs.Printed.{err_weaker}
use Rattle.delta_cli.proofs.tool.run_command.Goals as goal

pub returns-in-Sync-clause-stops : goal.returns-in-Sync-clause-stops
returns-in-Sync-clause-stops g c =
    let at = outside_of g.S.Source g.K.Sink g.H.Shelf g.N.Dial in
    let old = at c.args.input.now c.args.out.now c.args.shelf.now c.args.net.now in
    let new = at c.args.input.now c.sync_zone_unmarked.new.out c.sync_zone_unmarked.new.shelf c.sync_zone_unmarked.new.net in
    err_weaker c.sync_zone_unmarked.result _ _
    (λ refusal stops. subst (λ (command : Command). Stops g.H.Shelf g.N.Dial g.N.L.Link command old new refusal) (sym c.in-Sync.is) stops)
    c.sync_zone_unmarked.ensures.stopped
