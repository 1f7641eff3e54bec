-- It owns nothing, so threads may share it.
use denote.Param.Send.{IsSync, part_keyless}
use Rattle.patch_reader.specs.contracts.past.Taken.{the_row}
use Rattle.patch_reader.proofs.past.Taken.TheSendSync.Send.{send}

pub sync : IsSync the_row
sync = record { shared = λ d b o κ q. part_keyless the_row send q d b o }
