use Rattle.std.proofs.Common.{rules, sym, subst, ◌∙◌, List}
use Rattle.std.specs.List.Sorted.{IsSorted}
use Rattle.std.proofs.lemmas.List.Sorted.{answers_always, All-permutation}
use Rattle.rdf_terms.specs.declared.change.Change.{Change}
use Rattle.dataset_tx.specs.Rows.{change_cmp, HasItsRow}
use Rattle.dataset_tx.proofs.Rowed.{moved_changes, rises, rises_weakly, sorted_changes}
use Rattle.dataset_tx.proofs.prefixes.PrefixMap.changes.Goals as goal

pub returns-clause-each : goal.returns-clause-each
returns-clause-each c =
    moved_changes _ _ _ _ c.sort_unstable_by.ensures.permutation c.in_ok-rows.ensures.changes (c.from_vec.ensures ∙ c.in_ok-changes_of.ensures)

pub returns-clause-in_order : goal.returns-clause-in_order
returns-clause-in_order c =
    subst (λ (l : List Change). IsSorted change_cmp l) (sym (c.from_vec.ensures ∙ c.in_ok-changes_of.ensures))
    (sorted_changes _ (All-permutation HasItsRow _ _ c.sort_unstable_by.ensures.permutation c.in_ok-rows.ensures.rows) (c.sort_unstable_by.ensures.sorted rises rises_weakly (answers_always _ _ _ (λ f a r h k. search rules))))
