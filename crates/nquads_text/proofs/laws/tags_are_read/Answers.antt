use Rattle.std.proofs.Common.{◌∷◌}
use Rattle.nquads_text.proofs.TagReads.{tag_is_longest, lang_tag_is_read, tag_fault, tag_lacks}
use Rattle.nquads_text.proofs.laws.tags_are_read.Goals as goal

pub returns-clause-found : goal.returns-clause-found
returns-clause-found c = λ rest value after e. tag_is_longest (64 ∷ rest) rest value after e

pub returns-clause-again : goal.returns-clause-again
returns-clause-again c = lang_tag_is_read

pub returns-clause-fault : goal.returns-clause-fault
returns-clause-fault c = tag_fault

pub returns-clause-only_fault : goal.returns-clause-only_fault
returns-clause-only_fault c = tag_lacks
