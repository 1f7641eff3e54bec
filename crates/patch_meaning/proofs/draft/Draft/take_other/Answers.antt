use Rattle.patch_meaning.proofs.Taking.{late_other, other_taken, other_stands}
use Rattle.patch_meaning.proofs.draft.Draft.take_other.Goals as goal

pub returns-then-self-clause-row : goal.returns-then-self-clause-row
returns-then-self-clause-row c = λ rs s. late_other rs c.args.self.now s c.if-self.true

pub returns-clause-row : goal.returns-clause-row
returns-clause-row c = λ rs s. other_stands rs c.args.self.now s c.if-self.false (other_taken rs c.args.self.now s c.if-self.false)
