use Rattle.hall_deployment.proofs.Names.{asked_by_name}
use Rattle.hall_deployment.proofs.laws.sessions_ask_by_name.Goals as goal

pub returns : goal.returns
returns c = λ dice last exchanges steps are. asked_by_name dice last exchanges steps are
