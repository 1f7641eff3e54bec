use Rattle.std.proofs.Common.{map}
use Rattle.chain_core.specs.Decision.{decision}
use Rattle.patch_log.specs.Log.{bare}
use Rattle.zone_state.specs.Brief.{brief_of}
use Rattle.zone_state.specs.Taking.{taking}
use Rattle.zone_state.proofs.AsLogs.{decided_alike, stays_alike}
use Rattle.zone_state.proofs.laws.zones_decide_as_logs.Goals as goal

pub returns-clause-decided : goal.returns-clause-decided
returns-clause-decided c limits taken patch version = decided_alike taken patch limits version

pub returns-clause-stays : goal.returns-clause-stays
returns-clause-stays c limits taken doubt patch fate =
    stays_alike fate (map bare taken) doubt patch (taking (brief_of taken).ids (brief_of taken).bytes patch limits) (decision (map bare taken) patch limits) (decided_alike taken patch limits)
