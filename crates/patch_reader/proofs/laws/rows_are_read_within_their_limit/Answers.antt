use Rattle.patch_reader.proofs.Limits.{exact_limited}
use Rattle.patch_reader.proofs.laws.rows_are_read_within_their_limit.Goals as goal

pub returns-clause-found : goal.returns-clause-found
returns-clause-found c = λ text x after e. (exact_limited text).found (x, after) e

pub returns-clause-again : goal.returns-clause-again
returns-clause-again c = λ text x after e. (exact_limited text).again (x, after) e

pub returns-clause-fault : goal.returns-clause-fault
returns-clause-fault c = λ text f e. (exact_limited text).fault f e

pub returns-clause-only_fault : goal.returns-clause-only_fault
returns-clause-only_fault c = λ text f e. (exact_limited text).only f e
