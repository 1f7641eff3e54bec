use Rattle.chain_core.proofs.Stays.{stays}
use Rattle.chain_core.proofs.laws.stays_keep_logs.Goals as goal

pub returns : goal.returns
returns c = stays
