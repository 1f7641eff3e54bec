use Rattle.std.proofs.Common.{sym, subst, ◌∙◌, drop, arith}
use Rattle.std.proofs.lemmas.Bool.{false≢true}
use Rattle.patch_rows.specs.Fault.{RowFails}
use Rattle.patch_rows.specs.declared.fault.RowFault.{RowFault}
use Rattle.patch_reader.specs.Progress.{part_at}
use Rattle.patch_reader.proofs.ProgressSteps.{part_leads, part_done, part_met, next_left}
use Rattle.patch_reader.proofs.progress.step_part.Goals as goal

pub returns-then-ends : goal.returns-then-ends
returns-then-ends c =
    let within = c.requires.within in
    let there = subst (λ (e : RowFault). RowFails c.args.text.now e (part_at c.args.part (drop c.args.start c.args.text.now))) c.in-Err-At.field-0-is c.in-Err-At.ensures in
    ((λ more. (λ o. o, λ o. o)), omega (arith, within), (part_met c.args.text.now c.args.part c.args.start (omega (arith, within)) c.requires.graph c.in-Err-At.at c.in-Err-At.kind there.0).1 (sym c.ends.ensures ∙ c.if-ends.true))

pub returns-else-ends : goal.returns-else-ends
returns-else-ends c = λ o.
    let within = c.requires.within in
    let there = subst (λ (e : RowFault). RowFails c.args.text.now e (part_at c.args.part (drop c.args.start c.args.text.now))) c.in-Err-At.field-0-is c.in-Err-At.ensures in
    false≢true (sym c.if-ends.false ∙ c.ends.ensures ∙ (part_met c.args.text.now c.args.part c.args.start (omega (arith, within)) c.requires.graph c.in-Err-At.at c.in-Err-At.kind there.0).0 o)

pub returns-in-Some : goal.returns-in-Some
returns-in-Some c =
    let within = c.requires.within in
    let next = sym c.part_behind.ensures ∙ c.in-Some.is in
    let fewer = next_left c.args.part c.in-Some.next next in (
      part_leads c.args.text.now c.args.part c.args.start (omega (arith, within)) c.requires.graph c.in-Some.next c.in-Ok.behind c.in-Ok.ensures.1 next c.in-Ok.ensures.0,
      c.in-Ok.ensures.1,
      omega (arith, fewer),
    )

pub returns-in-None : goal.returns-in-None
returns-in-None c =
    let within = c.requires.within in
    part_done c.args.text.now c.args.part c.args.start (omega (arith, within)) c.requires.graph c.in-Ok.behind c.in-Ok.ensures.1 (sym c.part_behind.ensures ∙ c.in-None.is) c.in-Ok.ensures.0
