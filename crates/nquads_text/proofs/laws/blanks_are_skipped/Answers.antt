use Rattle.nquads_text.proofs.BlankRuns.{blanks_parted, blanks_skip}
use Rattle.nquads_text.proofs.laws.blanks_are_skipped.Goals as goal

pub returns-clause-found : goal.returns-clause-found
returns-clause-found c = blanks_parted

pub returns-clause-again : goal.returns-clause-again
returns-clause-again c = blanks_skip
