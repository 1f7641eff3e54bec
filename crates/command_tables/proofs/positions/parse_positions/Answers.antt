use Rattle.std.proofs.Common.{◌∙◌}
use Rattle.std.proofs.Common.{string_bytes}
use Rattle.command_tables.proofs.EndOfPositions.{parse_count, parse_values, parse_usage}
use Rattle.command_tables.proofs.positions.parse_positions.Goals as goal

pub returns-in-Ok-try_get_matches_from-clause-values : goal.returns-in-Ok-try_get_matches_from-clause-values
returns-in-Ok-try_get_matches_from-clause-values c =
    parse_values string_bytes _ _ c.args.names.now c.args.words.now c.in-Ok.ensures c.requires.apart c.requires.few c.requires.command c.requires.plain
    c.in-Ok-try_get_matches_from.matches c.in-Ok-try_get_matches_from.ensures.matches c.in-Ok-try_get_matches_from.ensures.kinds

pub returns-in-Ok-try_get_matches_from-clause-count : goal.returns-in-Ok-try_get_matches_from-clause-count
returns-in-Ok-try_get_matches_from-clause-count c =
    parse_count string_bytes _ _ c.args.names.now c.args.words.now c.in-Ok.ensures c.requires.apart c.requires.few c.requires.command c.requires.plain
    c.in-Ok-try_get_matches_from.ensures.kinds

pub returns : goal.returns
returns c = record {
  values = tt;
  count = tt;
  usage = λ _ same. parse_usage string_bytes _ _ c.args.names.now c.args.words.now c.in-Ok.ensures c.requires.apart c.requires.few c.requires.command c.requires.plain
      c.in-Err.error c.in-Err.ensures.kinds (λ full. c.in_default-kind.not-OutOfMemory (c.kind.ensures ∙ full)) same;
}
