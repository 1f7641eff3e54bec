use Rattle.std.proofs.Common.{arith}
use Rattle.line_log.proofs.Taking.{before_none}
use Rattle.line_log.proofs.log.LineLog.compares.Goals as goal

pub returns-in-empty : goal.returns-in-empty
returns-in-empty c = before_none c.args.self.now c.args.front c.requires c.args.number c.args.rows.now (omega arith) (omega arith)
