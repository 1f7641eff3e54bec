use Rattle.world_core.proofs.Mirroring.{stopped_part}
use Rattle.world_core.proofs.mirror.run_own.Goals as goal

pub returns-in_ok-stop-in-Up : goal.returns-in_ok-stop-in-Up
returns-in_ok-stop-in-Up c = stopped_part c.args.part c.in-Up.log c.args.pool.now.items c.args.event.now c.in-MirrorStop.opened c.in_ok-stop-in-Up.field-0 c.in-Up.is c.in-MirrorStop.is c.in_ok-stop-in-Up.ensures
