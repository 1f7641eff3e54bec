use Rattle.patch_reader.proofs.InsideSteps.{hat_ends}
use Rattle.patch_reader.proofs.inside.are_blanks_open.Goals as goal

pub returns-then-at-text-2 : goal.returns-then-at-text-2
returns-then-at-text-2 c = λ is. hat_ends c.args.text.now c.args.at c.if-at-text-2.true is
