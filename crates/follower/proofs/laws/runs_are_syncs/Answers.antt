use Rattle.follower.proofs.Regained.{is_sync}
use Rattle.follower.proofs.laws.runs_are_syncs.Goals as goal

pub returns : goal.returns
returns g c = is_sync g.Z.Follower.footing
