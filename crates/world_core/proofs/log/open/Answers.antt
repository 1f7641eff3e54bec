use Rattle.std.proofs.Common.{None, ⊎_elim, arith}
use Rattle.disk_model.specs.Past.{reads}
use Rattle.disk_model.specs.Plan.{plan_past, plan_reads_left}
use Rattle.log_base.specs.declared.limits.TheConstants.{LOG_LIMITS}
use Rattle.patch_log.proofs.Reopened.{no_fault_again}
use Rattle.world_core.specs.declared.log.TheConstants.{LOG_NUMBER}
use Rattle.world_core.proofs.Running.{opened_runs}
use Rattle.world_core.proofs.log.open.Goals as goal

pub returns-in-Ok : goal.returns-in-Ok
returns-in-Ok c runs keeps =
    opened_runs c.args.disk c.in-Ok.log runs keeps (c.in-Ok.ensures.payloads tt) c.in-Ok.ensures.log c.in-Ok.ensures.settled (c.chain-chain.ensures.stands tt)

pub unreachable-requires : goal.unreachable-requires
unreachable-requires c =
    let past = plan_past c.args.disk in
    ⊎_elim c.in_default.not-Failed c.in_default.not-OutOfMemory
    (no_fault_again past LOG_NUMBER LOG_LIMITS c.requires.0 None (reads past) c.in-Err.field-0.fault (omega arith) c.requires.1 (plan_reads_left c.args.disk) (c.in-Err.ensures.fault tt))
