use Rattle.zone_follower.proofs.Caused.{has_cause}
use Rattle.zone_follower.proofs.laws.followings_have_causes.Goals as goal

pub returns : goal.returns
returns g c = λ origin p q run end followed. has_cause g.D.Disk origin p run q end followed
