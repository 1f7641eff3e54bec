use Rattle.hall_deployment.proofs.Seeing.{shows_calls}
use Rattle.hall_deployment.proofs.laws.sessions_show_calls.Goals as goal

pub returns : goal.returns
returns g c = λ hall before after seen are place log part at is. shows_calls g.D.Disk hall place log at before after seen part is are
