use Rattle.hall_deployment.proofs.Servers.{idle_run}
use Rattle.hall_deployment.proofs.laws.idle_servers_show_runs.Goals as goal

pub returns : goal.returns
returns g c = λ dir workers files hall passes back left told over ended leaves. idle_run _ _ dir workers files hall passes back left told over ended leaves
