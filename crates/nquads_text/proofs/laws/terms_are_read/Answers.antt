use Rattle.nquads_text.proofs.TermReads.{term_found, term_is_read, term_fault, term_fault_is_met}
use Rattle.nquads_text.proofs.laws.terms_are_read.Goals as goal

pub returns-clause-found : goal.returns-clause-found
returns-clause-found c = term_found

pub returns-clause-again : goal.returns-clause-again
returns-clause-again c = term_is_read

pub returns-clause-fault : goal.returns-clause-fault
returns-clause-fault c = term_fault

pub returns-clause-only_fault : goal.returns-clause-only_fault
returns-clause-only_fault c = term_fault_is_met
