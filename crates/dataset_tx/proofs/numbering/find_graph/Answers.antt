use Rattle.dataset_tx.proofs.Numbered.{some_named, none_found}
use Rattle.dataset_tx.proofs.numbering.find_graph.Goals as goal

pub returns-in-Some-clause-some : goal.returns-in-Some-clause-some
returns-in-Some-clause-some c = some_named _ _ _ _ c.in-Some.is c.find.ensures

pub returns-in-Some-clause-none : goal.returns-in-Some-clause-none
returns-in-Some-clause-none c = none_found _ _ _ _ c.in-Some.is c.find.ensures
