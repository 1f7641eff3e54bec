use Rattle.std.proofs.Common.{List, get_or, subst}
use Rattle.shared_log.specs.History.{LogSight}
use Rattle.hall_logs.specs.Visits.{HasVisited}
use Rattle.hall_tests.proofs.threads.append_each.Goals as goal

-- what a call of the closure left of a pass
pub returns-clause-each : goal.returns-clause-each
returns-clause-each g c k d within =
    let logs = c.args.hall.now.logs in
    let call = (c.for_each_mut.ensures k d within).1 in
    subst (λ (after : List LogSight). HasVisited g.D.Disk logs (get_or c.args.passes.now k d) after) call.left
    (subst (λ (before : List LogSight). HasVisited g.D.Disk logs before call.after_call.now) call.argument_is call.call)
