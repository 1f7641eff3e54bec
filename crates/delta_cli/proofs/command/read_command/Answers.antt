use Rattle.std.proofs.Common.{ap, sym, ◌∷◌, ◌∙◌}
use Rattle.command_tables.proofs.Words.{first_of_words}
use Rattle.delta_cli.proofs.command.read_command.Goals as goal

pub read_named-requires : goal.read_named-requires
read_named-requires c =
    let first = first_of_words c.args.words.now c.first-item.result c.in-len1-up.len_at_least c.first-item.is in
    (first.0, first.1 ∙ ap (λ w. w ∷ first.0) (sym c.as_str.ensures.value))
