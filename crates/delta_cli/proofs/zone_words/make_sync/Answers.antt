use Rattle.std.proofs.Common.{rules}
use Rattle.command_tables.specs.Channels.{words_of}
use Rattle.delta_cli.proofs.Words.{sync_are}
use Rattle.delta_cli.proofs.zone_words.make_sync.Goals as goal

pub returns-clause-asks : goal.returns-clause-asks
returns-clause-asks c dice = (sync_are (words_of c.args.words.now) c.requires.fits c.args.dir c.in_ok-address.address c.in_ok-name.name c.requires.dir c.in_ok-address.ensures c.in_ok-name.ensures, search rules)
