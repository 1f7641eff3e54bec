use Rattle.std.proofs.Common.{sym, ◌∙◌}
use Rattle.patch_meaning.proofs.Read.{word_found}
use Rattle.patch_meaning.proofs.rows.word_from.Goals as goal

pub returns : goal.returns
returns c = λ from gap. word_found c.args.text.now from c.args.at c.in_ok-row.row c.in_ok-found_role.field-0 gap c.in_ok-row.ensures (sym c.found_role.ensures ∙ c.in_ok-found_role.was)
