use Rattle.std.proofs.Common.{Err, ap}
use Rattle.command_tables.specs.declared.positions.WordsFault.{WordsFault}
use Rattle.command_tables.specs.Channels.{words_of}
use Rattle.delta_cli.proofs.Words.{unfit}
use Rattle.delta_cli.proofs.command.read_positions.Goals as goal

pub returns-in-Err-Usage-clause-refused : goal.returns-in-Err-Usage-clause-refused
returns-in-Err-Usage-clause-refused c =
    let usage = c.in-Err-Usage.ensures.usage (ap (λ (fault : WordsFault). Err fault) c.in-Err-Usage.field-0-is) in
    (unfit (words_of c.args.words.now) c.args.name c.requires.begins usage, c.requires.begins, c.requires.of_tool)
