use Rattle.dataset_tx.proofs.Valued.{store_value}
use Rattle.dataset_tx.proofs.store.Store.contents_are_values.Goals as goal

pub returns : goal.returns
returns c = store_value c.args.self.now c.requires c.are_values.ensures.each c.are_values.ensures.rise
