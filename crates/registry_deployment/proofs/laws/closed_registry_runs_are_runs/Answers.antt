use Rattle.registry_deployment.proofs.Shown.{closed_is}
use Rattle.registry_deployment.proofs.laws.closed_registry_runs_are_runs.Goals as goal

pub returns : goal.returns
returns g c = λ image run tells begun all passes closed leaves. closed_is _ image run tells begun all passes closed leaves
