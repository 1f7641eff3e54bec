use Rattle.shared_log.proofs.OnDisk.{stays_in_sight}
use Rattle.shared_log.proofs.laws.stays_in_sight.Goals as goal

pub returns : goal.returns
returns g c = stays_in_sight g.D.Disk
