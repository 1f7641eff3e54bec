use Rattle.patch_reader.proofs.ReadOn.{fresh}
use Rattle.patch_reader.proofs.pieces.PatchReader.new.Goals as goal

pub invariant_of-result : goal.invariant_of-result
invariant_of-result c = fresh c.new-3.result.text c.new-4.result.rows c.new-2.result.items c.new.result c.new-3.ensures c.new-4.ensures c.new-2.ensures.items c.new.ensures
