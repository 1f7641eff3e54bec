use Rattle.delta_cli.specs.Asked.{Asked}
use Rattle.command_tables.specs.Views.{output_view}
use Rattle.delta_client.specs.Exchanges.{dial_view}
use Rattle.delta_cli.proofs.Printed.{err_weaker}
use Rattle.delta_cli.proofs.Shown.{all_visible, stops_asking}
use Rattle.delta_cli.proofs.ask.ask.Goals as goal

pub ask_once-ended-requires : goal.ask_once-ended-requires
ask_once-ended-requires g c = all_visible c.args.address.now c.requires.visible

pub returns-clause-stopped : goal.returns-clause-stopped
returns-clause-stopped g c =
    err_weaker c.show.result _ _
    (stops_asking (Asked g.N.Dial g.N.L.Link c.args.address.now c.args.call.now (dial_view g.N.Dial c.args.net.now) (dial_view g.N.Dial c.ask_once-ended.new.net)) c.ask_once-ended.result
    (record { tries = c.ask_once-ended.ensures.tries; asks = c.ask_once-ended.ensures.asks; cause = c.ask_once-ended.ensures.cause })
    (output_view g.K.Sink c.args.out.now) (output_view g.K.Sink c.show.new.out))
    c.show.ensures.stopped
