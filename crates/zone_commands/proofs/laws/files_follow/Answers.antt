use Rattle.zone_commands.proofs.Fronts.{ends_so, hold_front}
use Rattle.zone_commands.proofs.laws.files_follow.Goals as goal

pub returns-clause-front : goal.returns-clause-front
returns-clause-front g c = λ address name first second first' second' net net' end chain taken it tell files checked begins texts.
    hold_front g.N.L.Link.left g.N.L.Link.sent g.H.Shelf.tells g.N.Dial.tells address name first second first' second' net net' end it tell taken files chain checked begins texts

pub returns-clause-completes : goal.returns-clause-completes
returns-clause-completes g c = λ address name first second first' second' net net' end taken rest it tell told files checked is_chain serves.
    ends_so g.N.L.Link.left g.N.L.Link.sent g.H.Shelf.tells g.N.Dial.tells address name first second first' second' net net' end it tell taken files told rest checked is_chain serves
