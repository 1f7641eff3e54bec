use Rattle.std.proofs.Common.{sym, ◌∙◌}
use Rattle.dataset_tx.proofs.Sets.{out_staged, out_ok, absent_ok}
use Rattle.dataset_tx.proofs.keys.delete_from.Goals as goal

pub returns-in_ok-insert-clause-removed_in : goal.returns-in_ok-insert-clause-removed_in
returns-in_ok-insert-clause-removed_in c added h = out_staged _ added _ _ c.args.key h (sym c.contains.ensures.found ∙ c.if-contains.true) c.in_ok-insert.ensures.updates.0

pub returns-in_ok-insert-clause-ok : goal.returns-in_ok-insert-clause-ok
returns-in_ok-insert-clause-ok c = out_ok _ _ _ c.args.key c.requires c.in_ok-insert.ensures.updates.0

pub returns-else-contains-clause-ok : goal.returns-else-contains-clause-ok
returns-else-contains-clause-ok c = absent_ok _ _ c.args.key c.requires (sym c.contains.ensures.found ∙ c.if-contains.false)
