use Rattle.std.proofs.Common.{arith}
use Rattle.patch_meaning.proofs.Rowed.{fault_next}
use Rattle.patch_meaning.proofs.rows.row_from.Goals as goal

pub returns-in-Err : goal.returns-in-Err
returns-in-Err c = λ from gap. fault_next c.args.text.now from c.args.at c.in-Err.fault gap (omega (arith, c.requires.within)) c.in-Err.ensures.fault
