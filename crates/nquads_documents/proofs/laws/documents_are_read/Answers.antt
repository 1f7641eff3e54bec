use Rattle.nquads_documents.proofs.DocumentLaws.{documents_found, documents_again, documents_once, line_is_document}
use Rattle.nquads_documents.proofs.TermsRead.{terms_found, terms_again}
use Rattle.nquads_documents.proofs.laws.documents_are_read.Goals as goal

pub returns-clause-found : goal.returns-clause-found
returns-clause-found c = documents_found terms_found terms_again

pub returns-clause-again : goal.returns-clause-again
returns-clause-again c = documents_again terms_found terms_again

pub returns-clause-line : goal.returns-clause-line
returns-clause-line c = line_is_document terms_found terms_again

pub returns-clause-once : goal.returns-clause-once
returns-clause-once c = documents_once terms_found terms_again
