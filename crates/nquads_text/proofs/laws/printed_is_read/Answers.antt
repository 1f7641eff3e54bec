use Rattle.nquads_text.proofs.Printed.{printed, space_ends}
use Rattle.nquads_text.proofs.laws.printed_is_read.Goals as goal

pub returns-clause-spaced : goal.returns-clause-spaced
returns-clause-spaced c = space_ends

pub returns-clause-again : goal.returns-clause-again
returns-clause-again c = printed
