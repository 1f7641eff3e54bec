use Rattle.patch_reader.proofs.Kept.{whole_fault}
use Rattle.patch_reader.proofs.next.whole_row.Goals as goal

pub returns-in-Err : goal.returns-in-Err
returns-in-Err c = whole_fault c.args.text.now c.args.at c.in-Err.fault c.requires.within c.if-at-text.false c.in-Err.ensures.fault
