use Rattle.command_tables.specs.Views.{input_view}
use Rattle.delta_cli.proofs.Appending.{stops_input}
use Rattle.delta_cli.proofs.Printed.{err_weaker}
use Rattle.delta_cli.proofs.append.read_input.Goals as goal

pub returns-in-Ok-clause-stopped : goal.returns-in-Ok-clause-stopped
returns-in-Ok-clause-stopped g c =
    err_weaker c.checked.result _ _
    (stops_input c.args.what (input_view g.S.Source c.args.input.now) (input_view g.S.Source c.read_all.new.input)
    c.in-Ok.text.items (c.in-Ok.ensures.bytes, c.in-Ok.ensures.end))
    c.checked.ensures.stopped
