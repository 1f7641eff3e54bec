use Rattle.delta_session.proofs.Said.{served}
use Rattle.delta_session.proofs.laws.sessions_are_served.Goals as goal

pub returns : goal.returns
returns g c = λ hall. served g.D.Disk hall c.calls_add_up.ensures (c.visits_are_calls.ensures hall.logs.logs) c.lookups_add_up.ensures
