use Rattle.mirror.proofs.Calling.{pull_called}
use Rattle.mirror.proofs.laws.pulls_are_calls.Goals as goal

pub returns : goal.returns
returns g c = λ origin p q run end pulled. pull_called g.D.Disk origin p q run end pulled
