use Rattle.shared_registry.proofs.Moments.{closed}
use Rattle.shared_registry.proofs.laws.registries_are_closed_at_each_moment.Goals as goal

pub returns : goal.returns
returns g c = λ made registry passes s moment. closed _ made registry passes s moment
