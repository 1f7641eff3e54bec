use Rattle.follower.proofs.OneFile.{takes_on_one}
use Rattle.follower.proofs.zones.ZoneFollower.take_next.Goals as goal

pub returns : goal.returns
returns g c = takes_on_one g.D.Disk c.args.self.now c.take_next.new.self c.args.patch.now c.take_next.result c.take_next.ensures
