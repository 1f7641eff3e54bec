use Rattle.std.proofs.Common.{refl}
use Rattle.patch_log.proofs.States.{by_runs}
use Rattle.patch_log.proofs.Tails.{stands_for}
use Rattle.patch_log.proofs.state.LogState.decide_here.Goals as goal

pub returns-clause-decision : goal.returns-clause-decision
returns-clause-decision g c =
    let log = c.self.inside in
    let run = c.args.run.now in
    rw (← c.self.view_is) (by_runs log.chain.items run run log.tail.limits c.decide.result c.decide.ensures refl)

pub returns-clause-stands : goal.returns-clause-stands
returns-clause-stands g c told =
    let log = c.self.inside in
    rw (← c.self.view_is) (stands_for log.tail log.chain.items c.self.invariant told)
