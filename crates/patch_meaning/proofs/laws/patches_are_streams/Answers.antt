use Rattle.patch_meaning.proofs.Alone.{alone, one_split}
use Rattle.patch_meaning.proofs.laws.patches_are_streams.Goals as goal

pub returns-clause-alone : goal.returns-clause-alone
returns-clause-alone c = alone

pub returns-clause-one : goal.returns-clause-one
returns-clause-one c = one_split
