use Rattle.std.proofs.Common.{Some, true, refl}
use Rattle.patch_meaning.proofs.Taking.{change_refused, change_stands}
use Rattle.patch_meaning.proofs.draft.Draft.take_change.Goals as goal

pub returns-in-Ok-clause-row : goal.returns-in-Ok-clause-row
returns-in-Ok-clause-row c = λ rs s.
    change_stands rs c.args.change.now c.args.self.now (record c.args.self.now { has_change = true; in_block = c.in-Ok.in_block }) s c.in-Ok.ensures.1 refl refl refl c.in-Ok.ensures.0

pub returns-in-Err-clause-row : goal.returns-in-Err-clause-row
returns-in-Err-clause-row c = λ rs s. change_refused rs c.args.change.now c.args.self.now (Some c.in-Err.why) s c.in-Err.ensures
