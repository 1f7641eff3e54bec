use Rattle.hall_deployment.proofs.Servers.{server_run}
use Rattle.hall_deployment.proofs.laws.servers_show_runs.Goals as goal

pub returns : goal.returns
returns g c = λ dir workers old new gates after left told served leaves. server_run _ _ _ _ dir workers old new gates after left told served leaves
