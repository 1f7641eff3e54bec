use Rattle.std.proofs.Common.{arith}
use Rattle.patch_reader.proofs.InsideSteps.{blanks_over, hats_lead}
use Rattle.patch_reader.proofs.inside.blanks_run.Goals as goal

pub returns-then-text-at-eq94-2-clause-leads : goal.returns-then-text-at-eq94-2-clause-leads
returns-then-text-at-eq94-2-clause-leads c = λ more o.
    let at = c.skip_blanks-at.result in
    blanks_over c.args.text.now more c.args.from at c.requires c.skip_blanks-at.ensures.high c.skip_blanks-at.ensures.behind
    (hats_lead c.args.text.now more at (omega arith) c.if-text-at-eq94.true c.if-text-at-eq94-2.true o)

pub returns-clause-leads : goal.returns-clause-leads
returns-clause-leads c = λ more o. blanks_over c.args.text.now more c.args.from c.skip_blanks-at.result c.requires c.skip_blanks-at.ensures.high c.skip_blanks-at.ensures.behind o
