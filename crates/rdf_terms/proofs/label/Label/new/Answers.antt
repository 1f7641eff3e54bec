use Rattle.std.proofs.Common.{ℕ, List, subst}
use Rattle.rdf_terms.specs.Fit.{StopsFitting}
use Rattle.rdf_terms.specs.Label.{LabelChars}
use Rattle.rdf_terms.proofs.label.Label.new.Goals as goal

pub returns-in-Some : goal.returns-in-Some
returns-in-Some c = subst (λ (text : List ℕ). StopsFitting LabelChars text c.in-Some.at) c.as_str.ensures.value c.in-Some.ensures
