use Rattle.std.proofs.Common.{sym, ◌∙◌}
use Rattle.patch_reader.proofs.ProgressSteps.{quote_leads, bracket_leads, word_leads}
use Rattle.patch_reader.proofs.progress.part_begins.Goals as goal

pub returns-then-text-start-eq34-clause-leads : goal.returns-then-text-start-eq34-clause-leads
returns-then-text-start-eq34-clause-leads c = λ more o. quote_leads c.args.text.now more c.args.part c.args.start (sym c.takes_term.ensures ∙ c.if-takes_term.true) c.requires c.if-text-start-eq34.true o

pub returns-then-text-start-eq60-clause-leads : goal.returns-then-text-start-eq60-clause-leads
returns-then-text-start-eq60-clause-leads c = λ more o. bracket_leads c.args.text.now more c.args.part c.args.start (sym c.takes_term-2.ensures ∙ c.if-takes_term-2.true) c.requires c.if-text-start-eq60.true o

pub returns-then-is_ascii_alphabetic-clause-leads : goal.returns-then-is_ascii_alphabetic-clause-leads
returns-then-is_ascii_alphabetic-clause-leads c = λ more o.
    word_leads c.args.text.now more c.args.part c.args.start (sym c.takes_word.ensures ∙ c.if-takes_word.true) c.requires (sym c.is_ascii_alphabetic.ensures.value ∙ c.if-is_ascii_alphabetic.true) o
