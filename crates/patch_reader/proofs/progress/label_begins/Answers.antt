use Rattle.std.proofs.Common.{refl, sym, ◌∙◌}
use Rattle.patch_reader.proofs.ProgressSteps.{label_leads}
use Rattle.patch_reader.proofs.progress.label_begins.Goals as goal

pub returns-then-begins_name-clause-leads : goal.returns-then-begins_name-clause-leads
returns-then-begins_name-clause-leads c = λ more o.
    let here = c.in-Ok.ensures in
    label_leads c.args.text.now more c.args.part c.args.start c.in-Ok.next c.in-Ok.c c.requires.node (c.if-not-is_at.ensures.some refl) c.requires.line (sym c.is_at.ensures.stands ∙ c.if-not-is_at.false)
    here.gives.1 here.gives.0 (sym c.begins_name.ensures ∙ c.if-begins_name.true) o
