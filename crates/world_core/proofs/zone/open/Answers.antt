use Rattle.std.proofs.Common.{None, ⊎_elim}
use Rattle.disk_model.specs.Past.{reads}
use Rattle.disk_model.specs.Plan.{plan_past, plan_reads_left}
use Rattle.log_base.specs.declared.limits.TheConstants.{LOG_LIMITS}
use Rattle.zone_state.proofs.Reopened.{no_fault_again}
use Rattle.world_core.proofs.Taking.{opened_zone}
use Rattle.world_core.proofs.zone.open.Goals as goal

pub returns-in-Ok : goal.returns-in-Ok
returns-in-Ok c taken keeps =
    let found = c.in-Ok.ensures.taken in
    opened_zone c.args.disk c.in-Ok.zone found.0 taken keeps (found.3 tt) found.1 c.in-Ok.ensures.limits

pub unreachable-requires : goal.unreachable-requires
unreachable-requires c =
    let past = plan_past c.args.disk in
    ⊎_elim c.in_default.not-Failed (⊎_elim c.in_default.not-TermsFull c.in_default.not-OutOfMemory)
    (no_fault_again past LOG_LIMITS c.requires.0 None (reads past) c.in-Err.field-0.fault c.requires.1 (plan_reads_left c.args.disk) (c.in-Err.ensures.fault tt))
