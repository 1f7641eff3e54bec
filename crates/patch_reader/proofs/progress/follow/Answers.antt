use Rattle.std.proofs.Common.{Some, sym, subst}
use Rattle.patch_reader.specs.declared.progress.RowProgress.{RowProgress}
use Rattle.patch_reader.specs.Progress.{IsFollowed}
use Rattle.patch_reader.proofs.ProgressSteps.{followed_open, followed_inside, followed_none}
use Rattle.patch_reader.proofs.progress.follow.Goals as goal

pub returns-in-Open : goal.returns-in-Open
returns-in-Open c = subst (λ (p : RowProgress). IsFollowed c.args.text.now c.args.progress (Some p)) (sym c.at_place.ensures)
    (followed_open c.args.text.now c.args.progress c.steps.progress c.steps.invariant.1 c.in-Open.place (c.is_long.ensures.short c.if-is_long.false) c.in-Open.ensures)

pub returns-in-Enters : goal.returns-in-Enters
returns-in-Enters c = followed_inside c.args.text.now c.args.progress c.steps.progress c.steps.invariant.1 c.in-Enters.inside (c.is_long.ensures.short c.if-is_long.false) c.steps.invariant.0.0 c.in-Enters.ensures

pub returns-in-Decided : goal.returns-in-Decided
returns-in-Decided c = followed_none c.args.text.now c.args.progress c.steps.progress c.steps.invariant.1 c.in-Decided.ensures
