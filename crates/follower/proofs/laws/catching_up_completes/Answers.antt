use Rattle.follower.proofs.Completing.{completes}
use Rattle.follower.proofs.laws.catching_up_completes.Goals as goal

pub returns : goal.returns
returns g c = λ old new chain taken more name said end w is. completes old new chain taken more name said w end is
