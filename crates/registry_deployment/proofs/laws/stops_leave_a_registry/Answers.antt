use Rattle.registry_deployment.proofs.Left.{run_leaves}
use Rattle.registry_deployment.proofs.laws.stops_leave_a_registry.Goals as goal

pub returns : goal.returns
returns g c = λ image run tells is. let left = run_leaves _ tells image run is in (left.left, left.found)
