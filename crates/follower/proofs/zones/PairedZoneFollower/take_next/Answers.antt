use Rattle.follower.proofs.TwoFiles.{takes_on_two}
use Rattle.follower.proofs.zones.PairedZoneFollower.take_next.Goals as goal

pub returns : goal.returns
returns g c = takes_on_two g.D.Disk g.met.D.Disk.reads_may_be_left c.args.self.now c.take_next.new.self c.args.patch.now c.take_next.result c.take_next.ensures
