-- A term is read exactly where the grammar has one, and else its first fault is met.
use Rattle.nquads_text.specs.Faults.{AnyTermFault}
use Rattle.nquads_text.proofs.TermReads.{term_found, term_is_read, term_fault, term_fault_is_met}
use Rattle.nquads_documents.specs.Laws.{TermsFound, TermsAgain, TermFaultsFound, TermFaultsAgain}

pub terms_found : TermsFound
terms_found text after t = term_found text t after

pub terms_again : TermsAgain
terms_again text after t = term_is_read text t after

pub term_faults_found : TermFaultsFound AnyTermFault
term_faults_found = term_fault

pub term_faults_again : TermFaultsAgain AnyTermFault
term_faults_again = term_fault_is_met
