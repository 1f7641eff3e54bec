use Rattle.nquads_documents.proofs.Answering.{answered}
use Rattle.nquads_documents.proofs.TermsRead.{terms_found, terms_again, term_faults_found, term_faults_again}
use Rattle.nquads_documents.proofs.parts.read_document.Goals as goal

pub returns-clause-answers : goal.returns-clause-answers
returns-clause-answers c = answered terms_found terms_again term_faults_found term_faults_again c.args.text.now c.read_lines.result c.read_lines.ensures
