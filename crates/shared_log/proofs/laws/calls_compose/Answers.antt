use Rattle.shared_log.proofs.Adding.{compose}
use Rattle.shared_log.proofs.laws.calls_compose.Goals as goal

pub returns : goal.returns
returns g c = compose g.D.Disk
