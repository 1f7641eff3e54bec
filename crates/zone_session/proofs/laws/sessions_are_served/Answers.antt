use Rattle.zone_session.proofs.Served.{served}
use Rattle.zone_session.proofs.laws.sessions_are_served.Goals as goal

pub returns : goal.returns
returns g c = λ origin address name. served g.D.Disk g.N.Dial g.N.L.Link.left g.N.L.Link.sent origin address name (c.followings_bring_what_they_read.ensures origin)
