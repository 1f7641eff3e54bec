use Rattle.delta_session.proofs.Passing as passing
use Rattle.delta_session.proofs.laws.passes_stay.Goals as goal

pub returns : goal.returns
returns g c = λ hall. passing.passes_stay g.D.Disk hall
