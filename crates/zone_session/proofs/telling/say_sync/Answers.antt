use Rattle.zone_session.proofs.Told.{sync_said}
use Rattle.zone_session.proofs.telling.say_sync.Goals as goal

pub returns-clause-says : goal.returns-clause-says
returns-clause-says c = sync_said c.args.end c.end_told.result c.say_end.result c.end_told.ensures.tells c.say_end.ensures.says
