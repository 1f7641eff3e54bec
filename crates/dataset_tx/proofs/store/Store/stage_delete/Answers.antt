use Rattle.std.proofs.Common.{ℕ, List, sym, ap, subst}
use Rattle.std.specs.List.Sorted.{IsStrictlySortedBy}
use Rattle.rdf_terms.specs.Quad.{Statement}
use Rattle.rdf_terms.specs.Dataset.{Dataset, PrefixKey}
use Rattle.quad_index.specs.Key.{key_cmp}
use Rattle.quad_keys.specs.Keys.{AreKnown}
use Rattle.quad_keys.proofs.Quads.{absent_quad}
use Rattle.dataset_tx.proofs.Deleting.{known_left, sorted_left, quads_left}
use Rattle.dataset_tx.proofs.store.Store.stage_delete.Goals as goal

abbrev dataset_of : List Statement → List (PrefixKey × List ℕ) → Dataset
dataset_of quads prefixes = record { quads = quads; prefixes = prefixes }

pub returns-in_ok-delete-in-Some-clause-store : goal.returns-in_ok-delete-in-Some-clause-store
returns-in_ok-delete-in-Some-clause-store c = record {
  each_once = c.requires.each_once;
  known = subst (AreKnown c.args.self.now.terms) (sym c.delete.ensures.contents) c.requires.known;
  next_known = known_left _ c.in-Some.key _ _ c.requires.next_known c.in_ok-delete-in-Some.ensures.ok;
  sorted = subst (IsStrictlySortedBy key_cmp) (sym c.delete.ensures.contents) c.requires.sorted;
  next_sorted = sorted_left c.in-Some.key _ _ c.requires.next_sorted c.in_ok-delete-in-Some.ensures.ok;
}

pub returns-in_ok-delete-in-Some-clause-ok : goal.returns-in_ok-delete-in-Some-clause-ok
returns-in_ok-delete-in-Some-clause-ok c =
    ap (λ (l : List Statement). dataset_of l c.args.self.now.prefixes.next)
    (quads_left c.args.self.now.terms c.in-Some.key c.args.quad.now _ _ c.requires.each_once (c.in-Some.ensures.known c.quad_is_value.ensures) c.in-Some.ensures.quad c.requires.next_known c.requires.next_sorted c.in_ok-delete-in-Some.ensures.ok)

pub returns-in-None-clause-ok : goal.returns-in-None-clause-ok
returns-in-None-clause-ok c =
    ap (λ (l : List Statement). dataset_of l c.args.self.now.prefixes.next)
    (sym (absent_quad c.args.self.now.terms c.args.quad.now c.args.self.now.quads.next c.quad_is_value.ensures c.requires.next_known c.in-None.ensures.none))
