use Rattle.delta_cli.specs.Asked.{Described}
use Rattle.command_tables.specs.Views.{output_view}
use Rattle.delta_client.specs.Exchanges.{dial_view}
use Rattle.delta_cli.proofs.Printed.{err_weaker}
use Rattle.delta_cli.proofs.Shown.{all_visible, stops_asking}
use Rattle.delta_cli.proofs.ask.describe.Goals as goal

pub describe-ended-requires : goal.describe-ended-requires
describe-ended-requires g c = all_visible c.args.address.now c.requires.visible

pub returns-clause-stopped : goal.returns-clause-stopped
returns-clause-stopped g c =
    err_weaker c.show.result _ _
    (stops_asking (Described g.N.Dial g.N.L.Link c.args.address.now c.args.name.now (dial_view g.N.Dial c.args.net.now) (dial_view g.N.Dial c.describe-ended.new.net)) c.describe-ended.result
    (record { tries = c.describe-ended.ensures.tries; asks = c.describe-ended.ensures.asks; cause = c.describe-ended.ensures.cause })
    (output_view g.K.Sink c.args.out.now) (output_view g.K.Sink c.show.new.out))
    c.show.ensures.stopped
