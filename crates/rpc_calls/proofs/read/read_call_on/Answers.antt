use Rattle.rpc_calls.proofs.MethodLemmas.{answer_mirrors, answer_tells}
use Rattle.rpc_calls.proofs.read.read_call_on.Goals as goal

pub returns-in-Some-clause-mirrored : goal.returns-in-Some-clause-mirrored
returns-in-Some-clause-mirrored c = answer_mirrors c.read_at.result c.args.surface c.in-Some.route c.args.request c.read_at.ensures

pub returns-in-Some-clause-methods : goal.returns-in-Some-clause-methods
returns-in-Some-clause-methods c = answer_tells c.read_at.result c.args.surface c.in-Some.route c.args.request c.read_at.ensures
