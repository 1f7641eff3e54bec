use Rattle.follower.proofs.Causes.{has_cause}
use Rattle.follower.proofs.laws.ends_have_causes.Goals as goal

pub returns : goal.returns
returns g c = λ old new said more end is. has_cause old new said more end is
