use Rattle.zone_state.proofs.opening.Reading.finish.Goals as goal

pub returns-clause-ok : goal.returns-clause-ok
returns-clause-ok c first payloads has =
    let found = has.found c.if-broken.false in
    let read = found.2 in
    (found.0, found.1, read.whole c.if-full.false, read.met c.if-full.false)
