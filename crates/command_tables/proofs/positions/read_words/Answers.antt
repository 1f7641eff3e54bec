use Rattle.std.proofs.Common.{◌∙◌, sym, true≢false, string_bytes}
use Rattle.std.proofs.lemmas.Result.{on_ok_weaker}
use Rattle.command_tables.proofs.EndOfPositions.{plain_rest, rest_plain, fit_positions}
use Rattle.command_tables.proofs.positions.read_words.Goals as goal

pub read_positions-requires-clause-plain : goal.read_positions-requires-clause-plain
read_positions-requires-clause-plain c = plain_rest string_bytes c.args.words.now (c.are_plain.ensures.0 c.if-are_plain.true)

pub returns-then-are_plain-clause-fit : goal.returns-then-are_plain-clause-fit
returns-then-are_plain-clause-fit c =
    on_ok_weaker c.read_positions.result
    (fit_positions string_bytes c.args.names.now c.args.words.now (plain_rest string_bytes c.args.words.now (c.are_plain.ensures.0 c.if-are_plain.true)))
    c.read_positions.ensures.count

pub returns-else-are_plain-clause-usage : goal.returns-else-are_plain-clause-usage
returns-else-are_plain-clause-usage c = λ _ fit.
    true≢false (sym (c.are_plain.ensures.1 (rest_plain string_bytes c.args.words.now fit.0)) ∙ c.if-are_plain.false)
