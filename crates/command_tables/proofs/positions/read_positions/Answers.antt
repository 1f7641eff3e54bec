use Rattle.std.proofs.Common.{◌∙◌, drop, map, string_bytes}
use Rattle.clap.specs.Words.{found_of, first_value}
use Rattle.command_tables.proofs.EndOfPositions.{each_some, some_texts_are}
use Rattle.command_tables.proofs.positions.read_positions.Goals as goal

pub values_of-requires : goal.values_of-requires
values_of-requires c =
    each_some (λ name. first_value (found_of c.in_ok-matches.matches) name.now) c.args.names.now
    (drop 1 (map string_bytes c.args.words.now)) c.in_ok-matches.ensures.values

pub returns-in-Ok-clause-words : goal.returns-in-Ok-clause-words
returns-in-Ok-clause-words c = some_texts_are _ _ (c.in-Ok.ensures ∙ c.in_ok-matches.ensures.values)
