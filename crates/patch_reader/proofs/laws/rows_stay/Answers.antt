use Rattle.patch_reader.proofs.Opens.{row_again, fault_again}
use Rattle.patch_reader.proofs.laws.rows_stay.Goals as goal

pub returns-clause-row : goal.returns-clause-row
returns-clause-row c = row_again

pub returns-clause-fault : goal.returns-clause-fault
returns-clause-fault c = fault_again
