use Rattle.std.proofs.Common.{sym, ◌∙◌}
use Rattle.patch_reader.proofs.ProgressSteps.{letters_lead}
use Rattle.patch_reader.proofs.progress.code_begins.Goals as goal

pub returns-then-is_letter_at-clause-leads : goal.returns-then-is_letter_at-clause-leads
returns-then-is_letter_at-clause-leads c = λ more o. letters_lead c.args.text.now more (sym c.is_letter_at.ensures ∙ c.if-is_letter_at.true) o
