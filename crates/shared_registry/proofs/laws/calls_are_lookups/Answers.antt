use Rattle.shared_registry.proofs.Adding.{gives}
use Rattle.shared_registry.proofs.laws.calls_are_lookups.Goals as goal

pub returns : goal.returns
returns c = gives
