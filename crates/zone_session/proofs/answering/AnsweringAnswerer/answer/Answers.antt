use Rattle.std.proofs.Common.{[]}
use Rattle.zone_session.specs.Asking.{zone_asked}
use Rattle.zone_session.proofs.Asked.{refused_said}
use Rattle.zone_session.proofs.answering.AnsweringAnswerer.answer.Goals as goal

pub returns-in-Err-clause-answers : goal.returns-in-Err-clause-answers
returns-in-Err-clause-answers g c =
    let self = c.args.self.now in (
      [],
      refused_said g.D.Disk g.N.Dial g.N.L.Link.left g.N.L.Link.sent self.hall.now.origin self.address.now self.name.now (zone_asked c.args.request) c.in-Err.fault c.refuse.result c.args.state.now c.in-Err.ensures.asked c.refuse.ensures.says,
    )
