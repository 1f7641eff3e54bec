use Rattle.checkpoint_line.proofs.Cuts.{no_number_cut, cut_number}
use Rattle.checkpoint_line.proofs.first.number_to.Goals as goal

pub returns-in_default-clause-none : goal.returns-in_default-clause-none
returns-in_default-clause-none c = λ number rest is. no_number_cut c.args.stop c.args.text.now number rest c.in_default.ensures.none is

pub returns-in_default-read_number-clause-none : goal.returns-in_default-read_number-clause-none
returns-in_default-read_number-clause-none c = λ number rest is.
    c.in_default-read_number.ensures.none number is.counts (cut_number c.args.stop c.args.text.now c.in-Some.word.now c.in-Some.rest.now number rest c.requires c.in-Some.ensures.some is).0
