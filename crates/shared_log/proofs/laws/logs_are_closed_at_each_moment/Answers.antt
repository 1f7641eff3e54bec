use Rattle.shared_log.proofs.Moments.{closed}
use Rattle.shared_log.proofs.laws.logs_are_closed_at_each_moment.Goals as goal

pub returns : goal.returns
returns g c = λ made log passes s moment. closed _ made log passes s moment
