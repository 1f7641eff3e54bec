use Rattle.patch_rows.proofs.TermLaws.{exact_term}
use Rattle.patch_rows.proofs.laws.row_terms_are_read.Goals as goal

pub returns-clause-found : goal.returns-clause-found
returns-clause-found c = λ text x after e. (exact_term text).found (x, after) e

pub returns-clause-again : goal.returns-clause-again
returns-clause-again c = λ text x after e. (exact_term text).again (x, after) e

pub returns-clause-fault : goal.returns-clause-fault
returns-clause-fault c = λ text f e. (exact_term text).fault f e

pub returns-clause-only_fault : goal.returns-clause-only_fault
returns-clause-only_fault c = λ text f e. (exact_term text).only f e
