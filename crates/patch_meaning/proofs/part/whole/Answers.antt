use Rattle.patch_meaning.proofs.Parts.{whole_is}
use Rattle.patch_meaning.proofs.part.whole.Goals as goal

pub returns-in-Some-clause-ok : goal.returns-in-Some-clause-ok
returns-in-Some-clause-ok c = λ rs s. whole_is rs c.args.draft c.in-Some.id s c.if-draft.false c.in-Some.is
