use Rattle.std.proofs.Common.{ℕ, List, ◌++◌, IfErr, ap, subst, ◌∙◌}
use Rattle.sink_writing.specs.Writing.{joined}
use Rattle.command_tables.specs.Views.{output_view}
use Rattle.delta_cli.specs.Results.{StopsPrinting}
use Rattle.delta_cli.proofs.squash.print_squashed.Goals as goal

pub returns-in-Ok-clause-stopped : goal.returns-in-Ok-clause-stopped
returns-in-Ok-clause-stopped g c =
    let squashed = c.args.squashed.now in
    subst (λ (t : List ℕ). IfErr c.print_texts.result (StopsPrinting t (output_view g.K.Sink c.args.out.now) (output_view g.K.Sink c.print_texts.new.out)))
    (ap joined c.as_slice.ensures.value ∙ c.in-Ok.ensures ∙ ap (λ (n : List ℕ). squashed.front.now ++ (n ++ squashed.behind.now)) (c.as_slice-net.ensures ∙ c.text.ensures.text))
    c.print_texts.ensures.stopped
