use Rattle.mirror_session.proofs.session.serve_mirror_session.Goals as goal

pub returns-clause-number : goal.returns-clause-number
returns-clause-number g c =
    let talks = c.converse.ensures.conversed.talks.4 in
    (c.sessions_are_served.ensures c.args.log.now.origin c.args.address.now c.args.name.now c.args.seat.now c.converse.new.state talks.exchanges talks.answered).adds_up.adds.same.2
