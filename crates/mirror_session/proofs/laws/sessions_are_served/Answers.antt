use Rattle.mirror_session.proofs.Served.{served}
use Rattle.mirror_session.proofs.laws.sessions_are_served.Goals as goal

pub returns : goal.returns
returns g c = λ origin address name before after exchanges chain.
    served g.D.Disk g.N.Dial g.N.L.Link.left g.N.L.Link.sent origin address name (c.calls_compose.ensures origin) (c.calls_add_up.ensures origin) (c.pulls_are_calls.ensures origin) before after exchanges chain
