use Rattle.std.proofs.Common.{ℕ, List, [], get_or, sym, subst}
use Rattle.dataset_tx.specs.declared.pattern.Pattern.{Pattern}
use Rattle.pattern_words.specs.Words.{Finds, IsPatternOf}
use Rattle.command_tables.specs.Channels.{words_of}
use Rattle.command_tables.specs.Names.{FitsName}
use Rattle.delta_cli.specs.Commands.{IsOfTool}
use Rattle.delta_cli.proofs.Words.{five_are, matchless}
use Rattle.delta_cli.proofs.zone_words.make_of_zone.Goals as goal

abbrev asks : List (List ℕ) → Pattern → Type 0
asks words pattern = IsPatternOf (get_or words 2 []) (get_or words 3 []) (get_or words 4 []) (get_or words 5 []) pattern

pub returns-in-Ok-Some-clause-asks : goal.returns-in-Ok-Some-clause-asks
returns-in-Ok-Some-clause-asks c dice =
    let words = words_of c.args.words.now in
    let fits = subst (FitsName words) c.in-Match.is c.requires.fits in
    (get_or words 2 [], get_or words 3 [], get_or words 4 [], get_or words 5 [], five_are words fits c.in_ok-dir.dir c.in_ok-dir.ensures, subst (Finds (asks words)) c.in-Ok-Some.field-0-is c.in-Ok-Some.ensures)

pub returns-in-Ok-None-clause-refused : goal.returns-in-Ok-None-clause-refused
returns-in-Ok-None-clause-refused c =
    let words = words_of c.args.words.now in
    let fits = subst (FitsName words) c.in-Match.is c.requires.fits in
    (matchless words fits (subst (Finds (asks words)) c.in-Ok-None.field-0-is c.in-Ok-None.ensures), c.requires.fits.0, subst IsOfTool (sym c.in-Match.is) tt)
