use Rattle.hall_deployment.proofs.Runs.{slot_run}
use Rattle.hall_deployment.proofs.laws.hall_runs_are_runs.Goals as goal

pub returns : goal.returns
returns g c = λ images run tells is place image there. slot_run g.D.Disk tells images run is place image there
