use Rattle.patch_rows.proofs.Writable.{writable}
use Rattle.patch_rows.proofs.laws.rows_are_writable.Goals as goal

pub returns : goal.returns
returns c = writable
