use Rattle.registry_deployment.proofs.Kept.{promise}
use Rattle.registry_deployment.proofs.laws.registries_keep_their_promise.Goals as goal

pub returns : goal.returns
returns g c = λ image runs slots found tells are last. promise _ tells image runs slots found are last
