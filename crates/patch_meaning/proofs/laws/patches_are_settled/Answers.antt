use Rattle.patch_meaning.proofs.Settled.{one_meaning, one_fault, never_both}
use Rattle.patch_meaning.proofs.Exists.{patch_or}
use Rattle.patch_meaning.proofs.laws.patches_are_settled.Goals as goal

pub returns-clause-one : goal.returns-clause-one
returns-clause-one c = one_meaning

pub returns-clause-one_fault : goal.returns-clause-one_fault
returns-clause-one_fault c = one_fault

pub returns-clause-apart : goal.returns-clause-apart
returns-clause-apart c = never_both

pub returns-clause-some : goal.returns-clause-some
returns-clause-some c = patch_or
