use Rattle.std.proofs.Common.{arith}
use Rattle.directory_upgrade.proofs.Told.{lacking_of_shown}
use Rattle.directory_upgrade.proofs.slots.slots_shown.Goals as goal

pub returns-clause-fault : goal.returns-clause-fault
returns-clause-fault c payload long is = lacking_of_shown payload c.args.shown c.args.size c.slots_told.result (omega (arith, c.if-size-gt-SHOWN.false)) long is c.slots_told.ensures.fault
