use Rattle.shared_registry.proofs.Adding.{add_up}
use Rattle.shared_registry.proofs.laws.lookups_add_up.Goals as goal

pub returns : goal.returns
returns c = add_up
