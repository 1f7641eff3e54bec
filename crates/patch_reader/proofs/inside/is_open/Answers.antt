use Rattle.std.proofs.Common.{drop, length, sym, subst, ◌∙◌}
use Rattle.std.proofs.lemmas.Bool.{eqb-true}
use Rattle.patch_reader.specs.declared.inside.Inside.{Inside}
use Rattle.patch_reader.specs.Inside.{OpenInside}
use Rattle.patch_reader.proofs.InsideSteps.{tag_ends, datatype_cut}
use Rattle.patch_reader.proofs.inside.is_open.Goals as goal

pub returns-in-Tag : goal.returns-in-Tag
returns-in-Tag c = λ is. subst (λ (i : Inside). OpenInside i c.args.text.now) (sym c.in-Tag.is) (tag_ends c.args.text.now c.in-Tag.mark c.in-Tag.first c.in-Tag.some (eqb-true c.in-Tag.mark (length c.args.text.now) is))

pub returns-in-Datatype : goal.returns-in-Datatype
returns-in-Datatype c = λ is. subst (λ (i : Inside). OpenInside i c.args.text.now) (sym c.in-Datatype.is) (datatype_cut (drop c.in-Datatype.mark c.args.text.now) (sym c.is_cut_at.ensures ∙ is))
