use Rattle.world_core.proofs.Mirroring.{mirror_begins}
use Rattle.world_core.proofs.laws.mirrors_follow.Goals as goal

pub returns : goal.returns
returns c = mirror_begins
