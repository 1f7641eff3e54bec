use Rattle.std.specs.Char.{is_ascii_alphabetic}
use Rattle.patch_reader.proofs.InsideSteps.{run_over}
use Rattle.patch_reader.proofs.inside.letters_run.Goals as goal

pub returns-clause-leads : goal.returns-clause-leads
returns-clause-leads c = λ more o. run_over is_ascii_alphabetic c.args.text.now more c.args.from c.letters_end-end.result c.requires c.letters_end-end.ensures.high c.letters_end-end.ensures.end o
