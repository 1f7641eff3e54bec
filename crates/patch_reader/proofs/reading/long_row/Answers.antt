use Rattle.std.proofs.Common.{Ok, Err}
use Rattle.patch_reader.proofs.Answered.{front_decides}
use Rattle.patch_reader.proofs.reading.long_row.Goals as goal

pub returns-in-Ok : goal.returns-in-Ok
returns-in-Ok c = front_decides c.args.text.now c.args.at (Ok c.in-Ok.found) c.requires.long c.in-Ok.ensures

pub returns-in-Err : goal.returns-in-Err
returns-in-Err c = front_decides c.args.text.now c.args.at (Err c.in-Err.fault) c.requires.long c.in-Err.ensures
