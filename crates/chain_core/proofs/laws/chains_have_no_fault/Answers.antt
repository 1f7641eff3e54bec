use Rattle.chain_core.proofs.Only.{no_fault}
use Rattle.chain_core.proofs.laws.chains_have_no_fault.Goals as goal

pub returns : goal.returns
returns c = no_fault
