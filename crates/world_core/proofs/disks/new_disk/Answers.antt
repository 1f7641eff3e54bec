use Rattle.world_core.proofs.Carried.{new_keeps}
use Rattle.world_core.proofs.disks.new_disk.Goals as goal

pub returns-in-Ok : goal.returns-in-Ok
returns-in-Ok c = new_keeps c.args.number c.format.new.disk (c.in-Ok.ensures.ok tt)
