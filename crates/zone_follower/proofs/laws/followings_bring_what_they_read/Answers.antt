use Rattle.zone_follower.proofs.Brought.{follow_brings}
use Rattle.zone_follower.proofs.laws.followings_bring_what_they_read.Goals as goal

pub returns : goal.returns
returns g c = λ origin p q run end own followed. follow_brings g.D.Disk origin p q run end own followed
