use Rattle.patch_algebra.proofs.Patches.{written_are_read}
use Rattle.patch_algebra.proofs.Values.{patches_are_values, patches_have_rows}
use Rattle.patch_algebra.proofs.laws.written_patches_are_read.Goals as goal

pub returns-clause-values : goal.returns-clause-values
returns-clause-values c = patches_are_values

pub returns-clause-rows : goal.returns-clause-rows
returns-clause-rows c = patches_have_rows

pub returns-clause-read : goal.returns-clause-read
returns-clause-read c = written_are_read
