use Rattle.dataset_tx.proofs.Valued.{is_store}
use Rattle.dataset_tx.proofs.dataset.Dataset.contents_are_values.Goals as goal

pub contents_are_values-requires : goal.contents_are_values-requires
contents_are_values-requires c = is_store c.self.inside.store c.self.inside.is_staged c.self.invariant
