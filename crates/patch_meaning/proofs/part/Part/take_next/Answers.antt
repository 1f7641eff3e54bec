use Rattle.patch_meaning.proofs.Cuts.{taken_next, broken_row}
use Rattle.patch_meaning.proofs.part.Part.take_next.Goals as goal

pub returns-in-Ok-take-clause-ok : goal.returns-in-Ok-take-clause-ok
returns-in-Ok-take-clause-ok c =
    taken_next c.args.self.now c.in-Ok.next c.take.new.self c.args.says.now c.args.at c.in-Ok.done c.in-Ok.ensures.cut c.in-Ok.ensures.left c.in-Ok-take.ensures.rows c.in-Ok-take.ensures.from

pub returns-in-Err-take-clause-fault : goal.returns-in-Err-take-clause-fault
returns-in-Err-take-clause-fault c =
    broken_row c.args.self.now c.in-Ok.next c.args.says.now c.args.at c.in-Ok.done c.in-Err-take.fault c.in-Ok.ensures.cut c.in-Ok.ensures.left c.in-Err-take.ensures.fault
