use Rattle.mirror_session.proofs.Told.{pull_said}
use Rattle.mirror_session.proofs.telling.say_pull.Goals as goal

pub returns-clause-says : goal.returns-clause-says
returns-clause-says c = pull_said c.args.end c.end_told.result c.say_end.result c.end_told.ensures.tells c.say_end.ensures.says
