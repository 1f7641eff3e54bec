use Rattle.patch_rows.specs.Grammar.{is_word_byte}
use Rattle.patch_reader.proofs.InsideSteps.{run_over}
use Rattle.patch_reader.proofs.inside.word_run.Goals as goal

pub returns-clause-leads : goal.returns-clause-leads
returns-clause-leads c = λ more o. run_over is_word_byte c.args.text.now more c.args.from c.word_end-end.result c.requires c.word_end-end.ensures.high c.word_end-end.ensures.end o
