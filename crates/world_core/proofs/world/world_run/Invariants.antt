use Rattle.std.proofs.Common.{take}
use Rattle.log_base.specs.declared.limits.TheConstants.{LOG_LIMITS}
use Rattle.world_core.specs.World.{world}
use Rattle.world_core.specs.Parts.{IsWorldOf}
use Rattle.world_core.proofs.world.world_run.Given as goal

abbrev pub invariant-loop-event : goal.invariant-loop-event
invariant-loop-event l = IsWorldOf l.world (world LOG_LIMITS (take l.event-index l.event-items))
