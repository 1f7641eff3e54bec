use Rattle.std.proofs.Common.{arith}
use Rattle.patch_reader.proofs.InsideSteps.{datatype_over, less_leads}
use Rattle.patch_reader.proofs.inside.datatype_run.Goals as goal

pub returns-then-text-at-eq60-clause-leads : goal.returns-then-text-at-eq60-clause-leads
returns-then-text-at-eq60-clause-leads c = λ more o.
    let at = c.skip_blanks-at.result in
    datatype_over c.args.text.now more c.args.from at c.requires c.skip_blanks-at.ensures.high c.skip_blanks-at.ensures.behind
    (less_leads c.args.text.now more at (omega arith) c.if-text-at-eq60.true o)

pub returns-clause-leads : goal.returns-clause-leads
returns-clause-leads c = λ more o. datatype_over c.args.text.now more c.args.from c.skip_blanks-at.result c.requires c.skip_blanks-at.ensures.high c.skip_blanks-at.ensures.behind o
