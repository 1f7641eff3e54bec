use Rattle.std.proofs.Common.{take}
use Rattle.log_base.specs.declared.limits.TheConstants.{LOG_LIMITS}
use Rattle.world_core.specs.Mirrors.{mirrored, IsMirrorWorldOf}
use Rattle.world_core.proofs.mirror.mirror_run.Given as goal

abbrev pub invariant-loop-event : goal.invariant-loop-event
invariant-loop-event l = IsMirrorWorldOf l.world (mirrored LOG_LIMITS (take l.event-index l.event-items))
