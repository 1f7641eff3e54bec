use Rattle.std.proofs.Common.{◌∙◌}
use Rattle.dataset_tx.proofs.prefixes.give_back_all.Goals as goal

pub loop-row-preserved : goal.loop-row-preserved
loop-row-preserved c = record {
  same = c.give_back.ensures.contents ∙ c.loop-row.invariant.same;
  stand = c.give_back.ensures.stand c.loop-row.invariant.stand;
  sorted = c.give_back.ensures.sorted;
}
