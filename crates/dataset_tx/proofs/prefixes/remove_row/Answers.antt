use Rattle.std.proofs.Common.{rules, ◌≡◌, true, false, None, refl}
use Rattle.dataset_tx.specs.Prefixes.{has_row}
use Rattle.dataset_tx.proofs.Settling.{stage_rows, stage_gone, stage_none}
use Rattle.dataset_tx.proofs.prefixes.remove_row.Goals as goal

pub returns-in_ok-insert-clause-rows : goal.returns-in_ok-insert-clause-rows
returns-in_ok-insert-clause-rows c =
    let there : has_row c.args.rows.now.entries c.args.row.items ≡ true = search rules in
    stage_rows _ _ _ c.args.row None c.requires.rows c.in_ok-insert.ensures.entries c.insert.ensures.ordered c.in_ok-insert.ensures.updates.2 c.in_ok-insert.ensures.updates.1 tt there

pub returns-in_ok-insert-clause-ok : goal.returns-in_ok-insert-clause-ok
returns-in_ok-insert-clause-ok c =
    stage_gone _ _ _ c.args.row None c.requires.rows c.in_ok-insert.ensures.entries c.insert.ensures.ordered c.in_ok-insert.ensures.updates.2 c.in_ok-insert.ensures.updates.1 (c.args.graph.now, c.args.prefix.now) c.requires.row refl

pub returns-else-contains_key-clause-ok : goal.returns-else-contains_key-clause-ok
returns-else-contains_key-clause-ok c =
    let absent : has_row c.args.rows.now.entries c.args.row.items ≡ false = search rules in
    stage_none _ _ c.args.row.items (c.args.graph.now, c.args.prefix.now) c.requires.rows c.requires.row absent
