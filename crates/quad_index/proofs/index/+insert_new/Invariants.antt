use Rattle.std.proofs.Common.{length}
use Rattle.quad_index.proofs.index.+insert_new.Given as goal

abbrev pub decreases-insert_new : goal.decreases-insert_new
decreases-insert_new l = length l.orders.now
