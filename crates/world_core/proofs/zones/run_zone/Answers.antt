use Rattle.world_core.proofs.Zoning.{stop_part}
use Rattle.world_core.proofs.zones.run_zone.Goals as goal

pub returns-in_ok-stop-in-Up : goal.returns-in_ok-stop-in-Up
returns-in_ok-stop-in-Up c = stop_part c.args.part c.in-Up.zone c.args.pool.now.items c.args.event.now c.in-ZoneStop.zone c.in-ZoneStop.opened c.in_ok-stop-in-Up.field-0 c.in-Up.is c.in-ZoneStop.is c.in_ok-stop-in-Up.ensures
