use Rattle.mirror_session.specs.Asking.{mirror_asked}
use Rattle.mirror_session.proofs.Asked.{refused_for_want}
use Rattle.mirror_session.proofs.asking.read_asked.Goals as goal

pub returns-in-Err-clause-asked : goal.returns-in-Err-clause-asked
returns-in-Err-clause-asked c = refused_for_want (mirror_asked c.args.request)
