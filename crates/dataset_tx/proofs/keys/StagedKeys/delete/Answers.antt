use Rattle.dataset_tx.proofs.keys.StagedKeys.delete.Goals as goal

pub invariant_of-self : goal.invariant_of-self
invariant_of-self c = c.delete_from.ensures.removed_in c.self.inside.added.items c.self.invariant
