use Rattle.serde_json.specs.View.{view}
use Rattle.zone_session.specs.Answered.{reads}
use Rattle.zone_session.proofs.Asked.{refused_match}
use Rattle.zone_session.proofs.answering.say_match.Goals as goal

pub returns-in-Ok-clause-shows : goal.returns-in-Ok-clause-shows
returns-in-Ok-clause-shows g c = reads c.in-Ok.pattern c.in-Ok.ensures.reads c.say_matching.ensures.shows

pub returns-in-Err-clause-shows : goal.returns-in-Err-clause-shows
returns-in-Err-clause-shows g c = refused_match g.D.Disk c.args.hall.now.origin (view c.args.value) c.in-Err.fault c.refuse.result c.args.pass.now c.in-Err.ensures.reads c.refuse.ensures.says
