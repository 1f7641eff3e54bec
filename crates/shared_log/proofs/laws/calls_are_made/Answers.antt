use Rattle.shared_log.proofs.Adding.{each_is_made}
use Rattle.shared_log.proofs.laws.calls_are_made.Goals as goal

pub returns : goal.returns
returns g c = each_is_made g.D.Disk
