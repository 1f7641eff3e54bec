use Rattle.hall_tests.proofs.Passes.{has_parts, one_called}
use Rattle.hall_tests.proofs.calls.append_by.Goals as goal

pub append-requires-clause-of : goal.append-requires-clause-of
append-requires-clause-of g c = has_parts g.D.Disk c.args.hall.now.logs c.args.place c.requires.all c.requires.place c.index_mut.ensures.value

pub returns : goal.returns
returns g c = one_called g.D.Disk c.args.hall.now.logs c.args.place c.requires.all c.requires.place c.index_mut.ensures.value c.append.ensures.called c.append.ensures.whole
