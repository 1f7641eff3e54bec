use Rattle.std.proofs.Common.{◌+◌, arith}
use Rattle.slot_files.proofs.Steps.{same_further}
use Rattle.slot_files.proofs.logs.format_logs.Goals as goal

pub returns-clause-others : goal.returns-clause-others
returns-clause-others g c told = same_further c.args.dir.now c.loop-number.number (c.args.slots + 1) _ _ (omega arith) (c.loop-number.invariant.others told)
