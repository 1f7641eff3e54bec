use Rattle.std.proofs.Common.{rules, ◌≡◌, false, sym, ap, ◌∙◌}
use Rattle.std.specs.Option.{is_some}
use Rattle.dataset_tx.specs.Prefixes.{has_row}
use Rattle.dataset_tx.proofs.Settling.{place_settings, place_next, place_staged}
use Rattle.dataset_tx.proofs.prefixes.make_place.Goals as goal

pub returns-in_ok-insert-clause-rows : goal.returns-in_ok-insert-clause-rows
returns-in_ok-insert-clause-rows c =
    let new : has_row c.args.rows.now.entries c.args.row.now.items ≡ false = search rules in
    place_staged _ _ c.in_ok-copy.copy c.in_ok-insert.ensures.entries (ap (has_row c.args.rows.now.entries) c.in_ok-copy.ensures ∙ new) c.insert.ensures.ordered c.in_ok-insert.ensures.updates.2 (ap is_some c.in_ok-insert.ensures.updates.1)

pub returns-in_ok-insert-clause-contents : goal.returns-in_ok-insert-clause-contents
returns-in_ok-insert-clause-contents c =
    let new : has_row c.args.rows.now.entries c.args.row.now.items ≡ false = search rules in
    place_settings _ _ c.in_ok-copy.copy c.in_ok-insert.ensures.entries (ap (has_row c.args.rows.now.entries) c.in_ok-copy.ensures ∙ new)

pub returns-in_ok-insert-clause-next : goal.returns-in_ok-insert-clause-next
returns-in_ok-insert-clause-next c =
    let new : has_row c.args.rows.now.entries c.args.row.now.items ≡ false = search rules in
    place_next _ _ c.in_ok-copy.copy c.in_ok-insert.ensures.entries (ap (has_row c.args.rows.now.entries) c.in_ok-copy.ensures ∙ new)

pub returns-in_ok-insert-clause-ok : goal.returns-in_ok-insert-clause-ok
returns-in_ok-insert-clause-ok c =
    ap (has_row c.insert.new.self.entries) (sym c.in_ok-copy.ensures) ∙ ap is_some c.in_ok-insert.ensures.updates.1
