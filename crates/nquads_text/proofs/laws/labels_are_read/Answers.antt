use Rattle.nquads_text.proofs.LabelReads.{label_found, blank_is_read, label_fault, label_lacks}
use Rattle.nquads_text.proofs.laws.labels_are_read.Goals as goal

pub returns-clause-found : goal.returns-clause-found
returns-clause-found c = label_found

pub returns-clause-again : goal.returns-clause-again
returns-clause-again c = blank_is_read

pub returns-clause-fault : goal.returns-clause-fault
returns-clause-fault c = label_fault

pub returns-clause-only_fault : goal.returns-clause-only_fault
returns-clause-only_fault c = label_lacks
