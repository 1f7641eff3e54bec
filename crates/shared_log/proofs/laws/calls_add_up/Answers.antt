use Rattle.shared_log.proofs.Adding.{add_up}
use Rattle.shared_log.proofs.laws.calls_add_up.Goals as goal

pub returns : goal.returns
returns g c = add_up g.D.Disk
