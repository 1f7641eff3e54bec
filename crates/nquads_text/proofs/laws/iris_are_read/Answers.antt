use Rattle.nquads_text.proofs.IriLaws.{iri_fault_met, iri_fault_is_met}
use Rattle.nquads_text.proofs.LiteralReads.{iri_found, iri_again}
use Rattle.nquads_text.proofs.laws.iris_are_read.Goals as goal

pub returns-clause-found : goal.returns-clause-found
returns-clause-found c = iri_found

pub returns-clause-again : goal.returns-clause-again
returns-clause-again c = iri_again

pub returns-clause-fault : goal.returns-clause-fault
returns-clause-fault c = iri_fault_met

pub returns-clause-only_fault : goal.returns-clause-only_fault
returns-clause-only_fault c = iri_fault_is_met
