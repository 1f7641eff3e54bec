use Rattle.patch_algebra.proofs.Runs.{inverses_come_to_nothing, inverses_lead_back, nets_are_shortest, nets_replay}
use Rattle.patch_algebra.proofs.laws.nets_decide.Goals as goal

pub returns-clause-replay : goal.returns-clause-replay
returns-clause-replay c = nets_replay

pub returns-clause-shortest : goal.returns-clause-shortest
returns-clause-shortest c = nets_are_shortest

pub returns-clause-back : goal.returns-clause-back
returns-clause-back c = inverses_lead_back

pub returns-clause-nothing : goal.returns-clause-nothing
returns-clause-nothing c = inverses_come_to_nothing
