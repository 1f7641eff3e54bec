use Rattle.shared_log.proofs.OnDisk.{told_on_disk}
use Rattle.shared_log.proofs.laws.told_is_on_disk.Goals as goal

pub returns : goal.returns
returns g c = told_on_disk g.D.Disk
