use Rattle.world_core.proofs.Following.{always_follow}
use Rattle.world_core.proofs.laws.zones_follow.Goals as goal

pub returns : goal.returns
returns c = always_follow
