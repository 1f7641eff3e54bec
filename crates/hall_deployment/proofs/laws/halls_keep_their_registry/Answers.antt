use Rattle.hall_deployment.proofs.Registries.{keep_registry}
use Rattle.hall_deployment.proofs.laws.halls_keep_their_registry.Goals as goal

pub returns : goal.returns
returns g c = λ images runs tells are image there. keep_registry g.D.Disk tells images runs are image there
