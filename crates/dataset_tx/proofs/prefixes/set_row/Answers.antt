use Rattle.std.proofs.Common.{ℕ, List, Some, sym, ap, subst, ◌∙◌}
use Rattle.std.specs.BTreeMap.{insert_entry}
use Rattle.rdf_terms.specs.Dataset.{PrefixKey, prefix_cmp}
use Rattle.dataset_tx.specs.declared.prefixes.PrefixEntry.{PrefixEntry}
use Rattle.dataset_tx.specs.Prefixes.{StandsAt, standing, set_to}
use Rattle.dataset_tx.proofs.Settling.{stage_rows, stage_set, set_stands, standing_stands}
use Rattle.dataset_tx.proofs.prefixes.set_row.Goals as goal

pub returns-clause-rows : goal.returns-clause-rows
returns-clause-rows c =
    let placed = c.make_place.ensures.rows c.args.staged.now.entries c.requires.rows in
    let set = c.in_ok-entry.ensures ∙ ap (λ (b : List ℕ). set_to (c.args.graph.now, c.args.prefix.now) c.args.iri.now (standing c.args.staged.now.entries c.make_place.new.rows.entries b)) c.as_slice.ensures.value in
    let at = subst (λ (e : PrefixEntry). StandsAt c.args.row.items (Some e)) (sym set)
    (set_stands (c.args.graph.now, c.args.prefix.now) c.args.iri.now c.args.row.items _ c.requires.row c.requires.value (standing_stands _ _ c.args.row.items placed)) in
    stage_rows _ _ _ c.args.row (Some c.in_ok-entry.entry) placed c.in_ok-insert.ensures.entries c.insert.ensures.ordered c.in_ok-insert.ensures.updates.2 c.in_ok-insert.ensures.updates.1 at c.in_ok-make_place.ensures.ok

pub returns-clause-ok : goal.returns-clause-ok
returns-clause-ok c =
    let placed = c.make_place.ensures.rows c.args.staged.now.entries c.requires.rows in
    let set = c.in_ok-entry.ensures ∙ ap (λ (b : List ℕ). set_to (c.args.graph.now, c.args.prefix.now) c.args.iri.now (standing c.args.staged.now.entries c.make_place.new.rows.entries b)) c.as_slice.ensures.value in
    stage_set _ _ _ c.args.row (Some c.in_ok-entry.entry) placed c.in_ok-insert.ensures.entries c.insert.ensures.ordered c.in_ok-insert.ensures.updates.2 c.in_ok-insert.ensures.updates.1
    (c.args.graph.now, c.args.prefix.now) c.args.iri.now c.requires.row c.in_ok-make_place.ensures.ok (ap Some set)
    ∙ ap (λ (l : List (PrefixKey × List ℕ)). insert_entry prefix_cmp l (c.args.graph.now, c.args.prefix.now) c.args.iri.now) (c.make_place.ensures.next c.args.staged.now.entries c.requires.rows)
