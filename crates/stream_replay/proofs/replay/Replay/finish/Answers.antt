use Rattle.std.proofs.Common.{Option, subst}
use Rattle.chain_core.specs.declared.testing.ChainFault.{ChainFault}
use Rattle.stream_replay.specs.Replaying.{HasTakenPatches}
use Rattle.stream_replay.proofs.Taken.{broken}
use Rattle.stream_replay.proofs.replay.Replay.finish.Goals as goal

pub returns-in-Some-clause-fault : goal.returns-in-Some-clause-fault
returns-in-Some-clause-fault c = λ ms has. broken ms c.in-Some.fault (subst (λ (fault : Option ChainFault). HasTakenPatches ms fault c.args.self) c.in-Some.is has)
