use Rattle.nquads_text.specs.Faults.{AnyTermFault}
use Rattle.nquads_documents.proofs.DocumentFaults.{document_faults_found, document_faults_again, document_or_fault, never_both, faults_once}
use Rattle.nquads_documents.proofs.TermsRead.{terms_found, terms_again, term_faults_found, term_faults_again}
use Rattle.nquads_documents.proofs.laws.document_faults_are_met.Goals as goal

pub returns-clause-found : goal.returns-clause-found
returns-clause-found c = document_faults_found AnyTermFault terms_found terms_again term_faults_found term_faults_again

pub returns-clause-again : goal.returns-clause-again
returns-clause-again c = document_faults_again AnyTermFault terms_found terms_again term_faults_found term_faults_again

pub returns-clause-once : goal.returns-clause-once
returns-clause-once c = faults_once AnyTermFault terms_found terms_again term_faults_found term_faults_again

pub returns-clause-some : goal.returns-clause-some
returns-clause-some c = document_or_fault AnyTermFault terms_found terms_again term_faults_found term_faults_again

pub returns-clause-never_both : goal.returns-clause-never_both
returns-clause-never_both c = never_both AnyTermFault terms_found terms_again term_faults_found term_faults_again
