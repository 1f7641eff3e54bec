use Rattle.nquads_text.proofs.LiteralReads.{string_found, string_is_read, string_fault_is_met}
use Rattle.nquads_text.proofs.PieceFaults.{string_body_fault}
use Rattle.nquads_text.proofs.laws.strings_are_read.Goals as goal

pub returns-clause-found : goal.returns-clause-found
returns-clause-found c = string_found

pub returns-clause-again : goal.returns-clause-again
returns-clause-again c = string_is_read

pub returns-clause-fault : goal.returns-clause-fault
returns-clause-fault c = string_body_fault

pub returns-clause-only_fault : goal.returns-clause-only_fault
returns-clause-only_fault c = string_fault_is_met
