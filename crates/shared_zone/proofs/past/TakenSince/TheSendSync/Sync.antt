-- It owns nothing, so threads may share it.
use denote.Param.Send.{IsSync, part_keyless}
use Rattle.shared_zone.specs.contracts.past.TakenSince.{the_row}
use Rattle.shared_zone.proofs.past.TakenSince.TheSendSync.Send.{send}

pub sync : IsSync the_row
sync = record { shared = λ d b o κ q. part_keyless the_row send q d b o }
