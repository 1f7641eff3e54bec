use Rattle.nquads_text.proofs.TermAnswers.{answer_ok, answer_only, answer_fault, answer_only_fault}
use Rattle.nquads_text.proofs.terms.read_term.Goals as goal

pub returns-clause-ok : goal.returns-clause-ok
returns-clause-ok c = answer_ok c.args.text.now c.args.at c.term.result c.requires c.term.ensures

pub returns-clause-only : goal.returns-clause-only
returns-clause-only c = answer_only c.args.text.now c.args.at c.term.result c.term.ensures

pub returns-clause-fault : goal.returns-clause-fault
returns-clause-fault c = answer_fault c.args.text.now c.args.at c.term.result c.term.ensures

pub returns-clause-only_fault : goal.returns-clause-only_fault
returns-clause-only_fault c = answer_only_fault c.args.text.now c.args.at c.term.result c.term.ensures
