use Rattle.std.proofs.Common.{List, subst}
use Rattle.shared_zone.specs.History.{ZoneSight}
use Rattle.zone_session.specs.Working.{IsZoneOf}
use Rattle.zone_session.proofs.serving.serve_zone.Goals as goal

pub returns-in-Err-clause-want : goal.returns-in-Err-clause-want
returns-in-Err-clause-want g c =
    let e = c.in-Err.ensures.want in
    (e.0, subst (λ (passes : List ZoneSight). IsZoneOf g.D.Disk c.args.hall passes c.close-zone.result) e.1 c.close-zone.ensures.closed)
