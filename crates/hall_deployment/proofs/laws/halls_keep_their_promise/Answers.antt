use Rattle.hall_deployment.proofs.Runs.{keep}
use Rattle.hall_deployment.proofs.laws.halls_keep_their_promise.Goals as goal

pub returns : goal.returns
returns g c = λ images runs tells are place image there. keep g.D.Disk tells images runs are place image there
