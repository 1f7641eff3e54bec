use Rattle.patch_log.proofs.Tails.{stands_for}
use Rattle.patch_log.proofs.state.LogState.chain.Goals as goal

pub returns-clause-stands : goal.returns-clause-stands
returns-clause-stands g c told =
    let log = c.self.inside in
    rw (← c.self.view_is) (stands_for log.tail log.chain.items c.self.invariant told)
