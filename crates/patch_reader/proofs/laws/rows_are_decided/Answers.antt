use Rattle.patch_reader.proofs.Opens.{row_decided, fault_decided}
use Rattle.patch_reader.proofs.Settled.{undecided, only_row, only_fault}
use Rattle.patch_reader.proofs.laws.rows_are_decided.Goals as goal

pub returns-clause-row : goal.returns-clause-row
returns-clause-row c = row_decided

pub returns-clause-only_row : goal.returns-clause-only_row
returns-clause-only_row c = only_row

pub returns-clause-fault : goal.returns-clause-fault
returns-clause-fault c = fault_decided

pub returns-clause-only_fault : goal.returns-clause-only_fault
returns-clause-only_fault c = only_fault

pub returns-clause-none : goal.returns-clause-none
returns-clause-none c = undecided
