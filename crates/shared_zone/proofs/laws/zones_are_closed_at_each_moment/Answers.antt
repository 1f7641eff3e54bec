use Rattle.shared_zone.proofs.Moments.{closed}
use Rattle.shared_zone.proofs.laws.zones_are_closed_at_each_moment.Goals as goal

pub returns : goal.returns
returns g c = λ made shared passes s moment. closed _ made shared passes s moment
