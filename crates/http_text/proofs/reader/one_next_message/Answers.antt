use Rattle.http_text.proofs.NextLemmas.{no_end_before, no_fault_before, same_next}
use Rattle.http_text.proofs.reader.one_next_message.Goals as goal

pub returns-clause-same : goal.returns-clause-same
returns-clause-same c = same_next

pub returns-clause-no_end : goal.returns-clause-no_end
returns-clause-no_end c = no_end_before

pub returns-clause-no_fault : goal.returns-clause-no_fault
returns-clause-no_fault c = no_fault_before
