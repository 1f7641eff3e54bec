use Rattle.hall_logs.proofs.Visiting as visits
use Rattle.hall_logs.proofs.laws.passes_stay.Goals as goal

pub returns : goal.returns
returns g c = visits.passes_stay g.D.Disk
