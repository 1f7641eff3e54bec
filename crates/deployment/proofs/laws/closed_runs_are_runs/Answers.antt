use Rattle.deployment.proofs.Shown.{closed_is}
use Rattle.deployment.proofs.laws.closed_runs_are_runs.Goals as goal

pub returns : goal.returns
returns g c = λ number limits image run tells begun all passes closed leaves. closed_is _ number limits image run tells begun all passes closed leaves
