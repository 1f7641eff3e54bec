use Rattle.deployment.proofs.Shown.{killed_is}
use Rattle.deployment.proofs.laws.killed_runs_are_runs.Goals as goal

pub returns : goal.returns
returns g c = λ number limits image run s tells begun called there moment leaves. killed_is _ number limits image run tells begun s called there moment leaves
