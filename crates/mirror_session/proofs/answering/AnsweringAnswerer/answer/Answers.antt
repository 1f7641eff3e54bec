use Rattle.std.proofs.Common.{[]}
use Rattle.mirror_session.specs.Asking.{mirror_asked}
use Rattle.mirror_session.proofs.Asked.{refused_said}
use Rattle.mirror_session.proofs.answering.AnsweringAnswerer.answer.Goals as goal

pub returns-in-Err-clause-answers : goal.returns-in-Err-clause-answers
returns-in-Err-clause-answers g c =
    let self = c.args.self.now in (
      [],
      refused_said g.D.Disk g.N.Dial g.N.L.Link.left g.N.L.Link.sent self.log.now.origin self.address.now self.name.now (mirror_asked c.args.request) c.in-Err.fault c.refuse.result c.args.state.now c.in-Err.ensures.asked c.refuse.ensures.says,
    )
