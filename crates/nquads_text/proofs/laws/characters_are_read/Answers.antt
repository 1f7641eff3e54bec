use Rattle.nquads_text.proofs.Fronts.{char_spelled}
use Rattle.nquads_text.proofs.Needed.{char_stands, char_fault, no_character}
use Rattle.nquads_text.proofs.laws.characters_are_read.Goals as goal

pub returns-clause-found : goal.returns-clause-found
returns-clause-found c = char_spelled

pub returns-clause-again : goal.returns-clause-again
returns-clause-again c = char_stands

pub returns-clause-fault : goal.returns-clause-fault
returns-clause-fault c = char_fault

pub returns-clause-only_fault : goal.returns-clause-only_fault
returns-clause-only_fault c = no_character
