use Rattle.registry_deployment.proofs.Shown.{killed_is}
use Rattle.registry_deployment.proofs.laws.killed_registry_runs_are_runs.Goals as goal

pub returns : goal.returns
returns g c = λ image run s tells begun called there moment leaves. killed_is _ image run tells begun s called there moment leaves
