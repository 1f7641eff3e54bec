use Rattle.command_tables.specs.Channels.{words_of}
use Rattle.delta_cli.proofs.Words.{nameless, first_nameless}
use Rattle.delta_cli.proofs.command.read_named.Goals as goal

pub returns-in-None-clause-refused : goal.returns-in-None-clause-refused
returns-in-None-clause-refused c =
    let words = words_of c.args.words.now in
    let none = first_nameless words c.requires.0 c.args.first.now c.requires.1 c.in-None.ensures.found in
    (nameless words none, none)
