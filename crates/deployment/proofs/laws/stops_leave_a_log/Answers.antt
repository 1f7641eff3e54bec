use Rattle.deployment.proofs.Left.{run_leaves}
use Rattle.deployment.proofs.laws.stops_leave_a_log.Goals as goal

pub returns : goal.returns
returns g c = λ number limits image run tells is. let left = run_leaves _ tells number limits image run is in (left.left, left.found)
