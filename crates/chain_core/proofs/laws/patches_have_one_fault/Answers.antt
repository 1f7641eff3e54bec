use Rattle.chain_core.proofs.Only.{one_fault}
use Rattle.chain_core.proofs.laws.patches_have_one_fault.Goals as goal

pub returns : goal.returns
returns c = one_fault
