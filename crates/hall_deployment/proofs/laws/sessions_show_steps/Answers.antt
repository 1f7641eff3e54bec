use Rattle.hall_deployment.proofs.Seeing.{shows_steps}
use Rattle.hall_deployment.proofs.laws.sessions_show_steps.Goals as goal

pub returns : goal.returns
returns g c = λ hall before after exchanges served. shows_steps g.D.Disk hall before after exchanges served
