use Rattle.command_tables.specs.Views.{input_view, output_view}
use Rattle.delta_cli.proofs.Printed.{err_weaker, stops_printing}
use Rattle.delta_cli.proofs.replay.replay.Goals as goal

pub returns-in-Ok-clause-stopped : goal.returns-in-Ok-clause-stopped
returns-in-Ok-clause-stopped g c =
    err_weaker c.print_made.result _ _
    (stops_printing
    (input_view g.S.Source c.args.input.now) (input_view g.S.Source c.replay_source.new.input)
    (output_view g.K.Sink c.args.out.now) (output_view g.K.Sink c.print_made.new.out)
    c.in-Ok.replayed c.in-Ok.ensures.ok)
    c.print_made.ensures.stopped
