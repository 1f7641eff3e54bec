use Rattle.chain_core.proofs.Stays.{stops, opens}
use Rattle.chain_core.proofs.laws.stops_keep_logs.Goals as goal

pub returns : goal.returns
returns c = record { stop = stops; opening = opens }
