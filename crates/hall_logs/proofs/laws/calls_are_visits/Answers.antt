use Rattle.hall_logs.proofs.Visiting.{each_is_visit}
use Rattle.hall_logs.proofs.laws.calls_are_visits.Goals as goal

pub returns : goal.returns
returns g c = each_is_visit g.D.Disk
