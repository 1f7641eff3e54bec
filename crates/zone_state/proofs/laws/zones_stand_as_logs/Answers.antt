use Rattle.zone_state.proofs.AsLogs.{taken_log, zone_log}
use Rattle.zone_state.proofs.laws.zones_stand_as_logs.Goals as goal

pub returns-clause-taken : goal.returns-clause-taken
returns-clause-taken g c = taken_log

pub returns-clause-stands : goal.returns-clause-stands
returns-clause-stands g c told past zone taken doubt stands = zone_log g.D.Disk.tells past zone taken doubt stands told
