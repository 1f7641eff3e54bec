-- It owns nothing, so threads may share it.
use denote.Param.Send.{IsSync, part_keyless}
use Rattle.zone_state.specs.contracts.doubt.Doubtful.{the_row}
use Rattle.zone_state.proofs.doubt.Doubtful.TheSendSync.Send.{send}

pub sync : IsSync the_row
sync = record { shared = λ d b o κ q. part_keyless the_row send q d b o }
