use Rattle.delta_client.proofs.asking.ask.Goals as goal

pub returns-in-Ok-send_all-clause-answer : goal.returns-in-Ok-send_all-clause-answer
returns-in-Ok-send_all-clause-answer g c = rw (← c.send_all.ensures.keeps) c.hear.ensures.answer

pub returns-in-Ok-send_all-clause-front : goal.returns-in-Ok-send_all-clause-front
returns-in-Ok-send_all-clause-front g c = rw (c.hear.ensures.sent, ← c.in-Ok.ensures, ← c.as_slice.ensures) c.send_all.ensures.front
