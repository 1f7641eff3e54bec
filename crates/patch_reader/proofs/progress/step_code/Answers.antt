use Rattle.std.proofs.Common.{◌<◌, ◌*◌, ◌+◌, sym, subst, ◌∙◌, false, arith}
use Rattle.std.proofs.lemmas.Bool.{false≢true}
use Rattle.patch_rows.specs.Fault.{RowFails}
use Rattle.patch_rows.specs.declared.fault.RowFault.{RowFault}
use Rattle.patch_rows.specs.Reading.{word_at}
use Rattle.patch_reader.specs.declared.progress.RowPart.{RowPart}
use Rattle.patch_reader.specs.declared.progress.Place.TheVariants as place
use Rattle.patch_reader.specs.Progress.{SameOpen, parts_left}
use Rattle.patch_reader.proofs.ProgressSteps.{code_leads, first_left, word_met, code_is_none}
use Rattle.patch_reader.proofs.progress.step_code.Goals as goal

pub returns-then-ends : goal.returns-then-ends
returns-then-ends c =
    let there = subst (λ (e : RowFault). RowFails c.args.text.now e (word_at c.args.text.now)) c.in-Err-At.field-0-is c.in-Err-At.ensures in
    ((λ more. (λ o. o, λ o. o)), omega arith, (word_met c.args.text.now c.in-Err-At.at c.in-Err-At.kind there.0).1 (sym c.ends.ensures ∙ c.if-ends.true))

pub returns-else-ends : goal.returns-else-ends
returns-else-ends c = λ o.
    let there = subst (λ (e : RowFault). RowFails c.args.text.now e (word_at c.args.text.now)) c.in-Err-At.field-0-is c.in-Err-At.ensures in
    false≢true (sym c.if-ends.false ∙ c.ends.ensures ∙ (word_met c.args.text.now c.in-Err-At.at c.in-Err-At.kind there.0).0 o)

pub returns-in-Some : goal.returns-in-Some
returns-in-Some c = (
  subst (λ (p : RowPart). SameOpen c.args.text.now place.Row (place.Gap p c.in-Ok.behind false)) (sym c.first_part.ensures)
      (code_leads c.args.text.now c.in-Ok.letters.now c.in-Ok.behind c.in-Some.code c.in-Ok.ensures.1 c.in-Ok.ensures.0
      (sym c.find_code.ensures ∙ c.in-Some.is)),
  c.in-Ok.ensures.1,
  subst (λ (p : RowPart). 2 * parts_left p + 1 < 12) (sym c.first_part.ensures) (let few = first_left c.in-Some.code in omega (arith, few)),
)

pub returns-in-None : goal.returns-in-None
returns-in-None c = code_is_none c.args.text.now c.in-Ok.letters.now c.in-Ok.behind c.in-Ok.ensures.0 (sym c.find_code.ensures ∙ c.in-None.is)
