use Rattle.std.proofs.Common.{sym, ◌∙◌, arith}
use Rattle.patch_reader.proofs.ProgressSteps.{gap_leads, gap_ends, some_here, gap_over, gap_passed}
use Rattle.patch_reader.proofs.progress.step_gap.Goals as goal

pub returns-then-is_cut_at : goal.returns-then-is_cut_at
returns-then-is_cut_at c =
    let gap = c.pass_gap-at in
    (gap_leads c.args.text.now c.args.part c.args.mark gap.result.0 c.args.comment gap.result.1 gap.ensures.same, gap.ensures.high, gap_ends c.args.text.now c.args.part gap.result.0 gap.result.1 (sym c.is_cut_at.ensures ∙ c.if-is_cut_at.true))

pub returns : goal.returns
returns c =
    let gap = c.pass_gap-at in
    let text = c.args.text.now in
    let whole = sym c.is_cut_at.ensures ∙ c.if-is_cut_at.false in
    let lt = some_here text gap.result.0 gap.result.1 gap.ensures.high gap.ensures.stuck gap.ensures.stops whole in (
      gap_passed text c.args.part c.args.mark gap.result.0 c.args.comment gap.result.1 gap.ensures.same
          (gap_over text gap.result.0 gap.result.1 gap.ensures.high gap.ensures.stuck gap.ensures.stops whole gap.result.1 (λ is. is)),
      omega (arith, lt),
      omega arith,
    )
