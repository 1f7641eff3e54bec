use Rattle.std.proofs.Common.{[], refl}
use Rattle.hall_tests.proofs.Passes.{called}
use Rattle.hall_tests.proofs.threads.append_one.Goals as goal

pub returns-in-Ok : goal.returns-in-Ok
returns-in-Ok g c = called g.D.Disk c.args.hall.now.logs c.append.ensures.called c.append.ensures.whole

pub returns-in_default : goal.returns-in_default
returns-in_default g c = ([], refl)
