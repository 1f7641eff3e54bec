use Rattle.hall_deployment.proofs.Registries.{registry_run_of}
use Rattle.hall_deployment.proofs.laws.hall_runs_are_registry_runs.Goals as goal

pub returns : goal.returns
returns g c = λ images run tells is image there. registry_run_of g.D.Disk tells images run is image there
