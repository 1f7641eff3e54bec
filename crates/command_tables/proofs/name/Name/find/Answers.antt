use Rattle.command_tables.proofs.Words.{named, one_found}
use Rattle.command_tables.proofs.name.Name.find.Goals as goal

pub returns : goal.returns
returns c =
    let found = named c.args.word.now c.first_name.result c.first_name.ensures in
    record { found = found; only = one_found c.args.word.now c.first_name.result found }
