use Rattle.std.proofs.Common.{subst}
use Rattle.http_session.specs.Talks.{moment_of}
use Rattle.delta_session.specs.Steps.{HallSight}
use Rattle.delta_session.specs.Sessions.{IsSession, all_of}
use Rattle.delta_session.proofs.Passing.{has_stayed}
use Rattle.delta_session.proofs.Said.{steps_said}
use Rattle.delta_session.proofs.session.serve_session.Goals as goal

pub returns-clause-session : goal.returns-clause-session
returns-clause-session g c =
    let link = c.args.link.now in
    let left = c.converse.new.link in
    subst (λ (s : HallSight). IsSession g.D.Disk c.args.hall.now (moment_of (record s { dice = c.args.dice }) (g.L.Link.left link) (g.L.Link.sent link) (g.L.Link.faults link))
    (moment_of c.converse.new.state (g.L.Link.left left) (g.L.Link.sent left) (g.L.Link.faults left)) c.converse.result) c.pass.view_is c.converse.ensures.conversed

pub returns-clause-number : goal.returns-clause-number
returns-clause-number g c =
    let from : HallSight = record c.args.pass.now { dice = c.args.dice } in
    let talks = (returns-clause-session g c).talks.4 in
    let steps = steps_said g.D.Disk c.args.hall.now from c.converse.new.state talks.exchanges talks.answered in
    (has_stayed g.D.Disk c.args.hall.now from c.converse.new.state (all_of steps.0, steps.2) c.requires.ready).1
