use Rattle.std.proofs.Common.{sym, subst, ◌∙◌, drop}
use Rattle.nquads_text.specs.Fault.{Fails}
use Rattle.nquads_text.specs.declared.fault.ReadFault.{ReadFault}
use Rattle.nquads_text.specs.Reading.{iri_piece}
use Rattle.patch_reader.proofs.InsideSteps.{iri_ends}
use Rattle.patch_reader.proofs.inside.is_iri_open.Goals as goal

pub returns-in-Err-At : goal.returns-in-Err-At
returns-in-Err-At c =
    let there = subst (λ (e : ReadFault). Fails c.args.text.now e (iri_piece (drop c.args.at c.args.text.now))) c.in-Err-At.field-0-is c.in-Err-At.ensures.gives in
    λ is. iri_ends c.args.text.now c.args.at c.in-Err-At.place c.in-Err-At.kind there.0 (sym c.ends.ensures ∙ is)
