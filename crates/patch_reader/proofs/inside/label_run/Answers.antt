use Rattle.patch_reader.proofs.InsideSteps.{label_over}
use Rattle.patch_reader.proofs.inside.label_run.Goals as goal

pub run-preserved : goal.run-preserved
run-preserved c =
    let here = c.in-Ok.ensures in
    (here.gives.1, λ more o. c.run.invariant.1 more (label_over c.args.text.now more c.run.at c.in-Ok.next c.in-Ok.c here.further here.gives.1 here.gives.0 (c.is_label_char.ensures c.if-not-is_label_char.false) o))
