use Rattle.patch_reader.proofs.RowAnswers.{settled, one_row, one_fault, apart}
use Rattle.patch_reader.proofs.laws.rows_are_settled.Goals as goal

pub returns-clause-some : goal.returns-clause-some
returns-clause-some c = settled

pub returns-clause-one : goal.returns-clause-one
returns-clause-one c = one_row

pub returns-clause-one_fault : goal.returns-clause-one_fault
returns-clause-one_fault c = one_fault

pub returns-clause-apart : goal.returns-clause-apart
returns-clause-apart c = apart
