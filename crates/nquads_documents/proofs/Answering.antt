-- What is answered by the reading is answered by the grammar, where that is so of terms.
use Rattle.std.proofs.Common.{ℕ, List, Result, Ok, Err}
use Rattle.delta_base.specs.Listed.{Listed}
use Rattle.rdf_terms.specs.Quad.{Statement}
use Rattle.nquads_documents.specs.declared.fault.DocFault.{DocFault}
use Rattle.nquads_documents.specs.declared.fault.DocFault.TheVariants as fault
use Rattle.nquads_documents.specs.Answered.{ReadsDocument}
use Rattle.nquads_documents.specs.Laws.{TermsFound, TermsAgain, TermFaultsFound, TermFaultsAgain}
use Rattle.nquads_documents.specs.Reading.{ReadsAtLine}
use Rattle.nquads_text.specs.Faults.{AnyTermFault}
use Rattle.nquads_documents.proofs.DocumentFaults.{document_faults_found}
use Rattle.nquads_documents.proofs.DocumentLaws.{documents_found}

pub answered : TermsFound → TermsAgain → TermFaultsFound AnyTermFault → TermFaultsAgain AnyTermFault → (text : List ℕ) (result : Result (Listed Statement) DocFault) → ReadsAtLine text result → ReadsDocument text result
answered found again failed fails text (Ok quads) r = documents_found found again text quads.items r
answered found again failed fails text (Err (fault.At line at kind)) r = (document_faults_found AnyTermFault found again failed fails text _ r.0, r.1, r.2)
answered found again failed fails text (Err fault.OutOfMemory) r = tt
