use Rattle.shared_registry.proofs.OnDisk.{made_on_disk}
use Rattle.shared_registry.proofs.laws.made_is_on_disk.Goals as goal

pub returns : goal.returns
returns g c = made_on_disk g.D.Disk
