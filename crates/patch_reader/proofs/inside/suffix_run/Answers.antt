use Rattle.std.proofs.Common.{inl, arith}
use Rattle.patch_reader.proofs.InsideSteps.{tag_begins}
use Rattle.patch_reader.proofs.inside.suffix_run.Goals as goal

pub returns-then-text-from-eq64-clause-leads : goal.returns-then-text-from-eq64-clause-leads
returns-then-text-from-eq64-clause-leads c = λ more o. tag_begins c.args.text.now more c.args.from (omega arith) c.if-text-from-eq64.true o

pub returns-clause-leads : goal.returns-clause-leads
returns-clause-leads c = λ more o. inl o
