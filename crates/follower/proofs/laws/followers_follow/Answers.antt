use Rattle.follower.proofs.Fronts.{follows_on}
use Rattle.follower.proofs.Images.{leaves_fronts}
use Rattle.follower.proofs.laws.followers_follow.Goals as goal

pub returns-clause-zone : goal.returns-clause-zone
returns-clause-zone g c = follows_on g.Z.Follower.footing

pub returns-clause-images : goal.returns-clause-images
returns-clause-images g c = leaves_fronts g.Z.Follower.footing
