use Rattle.std.proofs.Common.{refl, sym, subst, []}
use Rattle.zone_session.specs.Asking.{asked_by_call}
use Rattle.zone_session.specs.Answered.{Serves}
use Rattle.zone_session.specs.declared.asking.ZoneCall.{ZoneCall}
use Rattle.zone_session.proofs.answering.Answering.serve.Goals as goal

pub returns-in-Match-clause-serves : goal.returns-in-Match-clause-serves
returns-in-Match-clause-serves g c =
    let self = c.args.self.now in
    subst (λ (call : ZoneCall). Serves g.D.Disk g.N.Dial g.N.L.Link.left g.N.L.Link.sent self.hall.now.origin self.address.now self.name.now (asked_by_call call) c.args.seat.now c.say_match.result (record c.args.seat.now { pass = c.say_match.new.pass })) (sym c.in-Match.is)
    ([], (refl, refl, c.say_match.ensures.shows))
