use Rattle.std.proofs.Common.{drop, sym, ◌∙◌}
use Rattle.patch_reader.proofs.InsideSteps.{label_ends, label_cut}
use Rattle.patch_reader.proofs.inside.is_label_open.Goals as goal

pub returns-then-at-text : goal.returns-then-at-text
returns-then-at-text c = λ is. label_ends c.args.text.now c.args.at c.if-at-text.true

pub returns-else-at-text : goal.returns-else-at-text
returns-else-at-text c = λ is. label_cut (drop c.args.at c.args.text.now) (sym c.is_name_at.ensures ∙ is)
