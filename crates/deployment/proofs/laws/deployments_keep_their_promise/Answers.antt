use Rattle.deployment.proofs.Kept.{promise}
use Rattle.deployment.proofs.laws.deployments_keep_their_promise.Goals as goal

pub returns : goal.returns
returns g c = λ number limits image runs found tells are last. promise _ tells number limits image runs found are last
