use Rattle.std.proofs.Common.{sym, subst}
use Rattle.patch_rows.specs.declared.cut.TextEnd.{TextEnd}
use Rattle.patch_reader.specs.Held.{HasAll}
use Rattle.patch_reader.proofs.WindowSteps.{all_known}
use Rattle.patch_reader.proofs.front.follow_rest.Goals as goal

pub returns-in-Known-clause-all : goal.returns-in-Known-clause-all
returns-in-Known-clause-all c = λ false_is. subst (λ (end : TextEnd). HasAll end c.args.rest.now c.args.region.now) (sym c.in-Known.is) (all_known c.args.rest.now c.args.region.now)

pub returns-in-Open-clause-quiet : goal.returns-in-Open-clause-quiet
returns-in-Open-clause-quiet c = λ yes. (c.in-Open.is, c.follow_open.ensures.quiet yes)
