use Rattle.patch_rows.proofs.GapSteps.{gap_is_space}
use Rattle.patch_rows.proofs.space.pass_space.Goals as goal

pub returns-clause-behind : goal.returns-clause-behind
returns-clause-behind c =
    let gap = c.pass_gap-at.ensures in
    gap_is_space c.args.text.now c.args.from c.pass_gap-at.result.0 c.pass_gap-at.result.1 gap.same gap.stuck gap.stops gap.high
