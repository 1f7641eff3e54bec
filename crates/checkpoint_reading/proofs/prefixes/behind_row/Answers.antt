use Rattle.std.proofs.Common.{◌∙◌}
use Rattle.checkpoint_reading.proofs.Stripped.{stripped_some, stripped_none}
use Rattle.checkpoint_reading.proofs.prefixes.behind_row.Goals as goal

pub returns-clause-some : goal.returns-clause-some
returns-clause-some c =
    stripped_some c.args.text.now c.as_bytes.result.now _ c.strip_prefix.result c.strip_prefix.ensures.cases (c.as_bytes.ensures.value ∙ c.in_ok-line.ensures.text)

pub returns-clause-none : goal.returns-clause-none
returns-clause-none c =
    stripped_none c.args.text.now c.as_bytes.result.now _ c.strip_prefix.result c.strip_prefix.ensures.cases (c.as_bytes.ensures.value ∙ c.in_ok-line.ensures.text)
