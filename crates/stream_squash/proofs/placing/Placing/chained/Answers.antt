use Rattle.std.proofs.Common.{refl}
use Rattle.stream_squash.proofs.Placed.{chain_of, unchained}
use Rattle.stream_squash.proofs.placing.Placing.chained.Goals as goal

pub returns-in-Some-clause-fault : goal.returns-in-Some-clause-fault
returns-in-Some-clause-fault c = λ text is. unchained text c.args.self c.in-Some.fault c.in-Some.is is

pub returns-in-None-clause-ok : goal.returns-in-None-clause-ok
returns-in-None-clause-ok c = λ text is. chain_of text c.args.self _ c.in-None.is refl refl is
