use Rattle.std.proofs.Common.{List, None, ap, ◌∙◌}
use Rattle.rdf_terms.specs.declared.term.Term.{Term}
use Rattle.rdf_terms.specs.Dataset.{Dataset, empty}
use Rattle.dataset_tx.specs.Held.{Held}
use Rattle.dataset_tx.proofs.dataset.Dataset.new.Goals as goal

abbrev settled : Dataset → List Term → Held
settled contents terms = record { contents = contents; staged = None; terms = terms }

pub returns : goal.returns
returns c = ap (λ (d : Dataset). settled d c.new.result.terms) c.new.ensures.contents ∙ ap (λ (t : List Term). settled empty t) c.new.ensures.terms
