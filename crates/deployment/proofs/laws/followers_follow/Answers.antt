use Rattle.deployment.proofs.Kept.{promise}
use Rattle.deployment.proofs.Following.{all_follow}
use Rattle.deployment.proofs.laws.followers_follow.Goals as goal

pub returns : goal.returns
returns g c = λ number limits image runs found tells are last images zone_runs zone_tells new zones zone_run i.
    all_follow number limits image runs found (promise _ tells number limits image runs found are last) last.log.sound (_) zone_tells images zone_runs zone_run new zones i
