use Rattle.std.proofs.Common.{Err, ap, refl}
use Rattle.command_tables.specs.declared.positions.WordsFault.{WordsFault}
use Rattle.command_tables.specs.Channels.{words_of}
use Rattle.delta_server.proofs.Asking.{asked_fit}
use Rattle.delta_server.proofs.words.read_positions.Goals as goal

pub returns-in-Err-Usage-clause-refused : goal.returns-in-Err-Usage-clause-refused
returns-in-Err-Usage-clause-refused c =
    let usage = c.in-Err-Usage.ensures.usage (ap (λ (fault : WordsFault). Err fault) c.in-Err-Usage.field-0-is) in
    (refl, c.requires, (λ dir address workers asks. usage (asked_fit (words_of c.args.words.now) dir address workers asks)))
