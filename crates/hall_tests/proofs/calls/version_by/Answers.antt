use Rattle.hall_tests.proofs.Passes.{has_parts, one_called}
use Rattle.hall_tests.proofs.calls.version_by.Goals as goal

pub version-requires-clause-of : goal.version-requires-clause-of
version-requires-clause-of g c = has_parts g.D.Disk c.args.hall.now.logs c.args.place c.requires.all c.requires.place c.index_mut.ensures.value

pub returns : goal.returns
returns g c = one_called g.D.Disk c.args.hall.now.logs c.args.place c.requires.all c.requires.place c.index_mut.ensures.value c.version.ensures.called c.version.ensures.whole
