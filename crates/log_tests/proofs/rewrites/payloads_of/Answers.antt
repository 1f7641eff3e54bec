use Rattle.log_tests.proofs.rewrites.payloads_of.Goals as goal

pub returns-in-Ok-clause-sized : goal.returns-in-Ok-clause-sized
returns-in-Ok-clause-sized c = (c.in-Ok.ensures.payloads tt).sized

pub returns-in-Ok-clause-few : goal.returns-in-Ok-clause-few
returns-in-Ok-clause-few c = (c.in-Ok.ensures.payloads tt).few
