use Rattle.zone_session.specs.Answered.{shows}
use Rattle.zone_session.proofs.answering.say_matching.Goals as goal

pub returns-in-Ok-clause-shows : goal.returns-in-Ok-clause-shows
returns-in-Ok-clause-shows g c = shows c.in-Ok.shown c.in-Ok.ensures.legal c.read.ensures.stay c.say_shown.ensures.says
