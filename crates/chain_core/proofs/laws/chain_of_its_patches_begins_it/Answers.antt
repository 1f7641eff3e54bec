use Rattle.chain_core.proofs.Among.{begins}
use Rattle.chain_core.proofs.laws.chain_of_its_patches_begins_it.Goals as goal

pub returns : goal.returns
returns c = begins
