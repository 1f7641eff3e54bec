use Rattle.std.proofs.Common.{sym, ◌∙◌}
use Rattle.patch_reader.proofs.ProgressSteps.{some_here, gap_over}
use Rattle.patch_reader.proofs.WindowSteps.{gap_passes, row_passes}
use Rattle.patch_reader.proofs.front.skip_gap.Goals as goal

pub returns-then-is_cut_at-clause-passes : goal.returns-then-is_cut_at-clause-passes
returns-then-is_cut_at-clause-passes c = let gap = c.pass_gap-at in gap_passes c.args.rest.now c.args.in_comment gap.result.1 gap.result.0 gap.ensures.high gap.ensures.same

pub returns-clause-passes : goal.returns-clause-passes
returns-clause-passes c =
    let gap = c.pass_gap-at in
    let rest = c.args.rest.now in
    let whole = sym c.is_cut_at.ensures ∙ c.if-is_cut_at.false in
    row_passes rest c.args.in_comment gap.result.1 gap.result.0 gap.ensures.high gap.ensures.same
    (some_here rest gap.result.0 gap.result.1 gap.ensures.high gap.ensures.stuck gap.ensures.stops whole)
    (gap_over rest gap.result.0 gap.result.1 gap.ensures.high gap.ensures.stuck gap.ensures.stops whole)
