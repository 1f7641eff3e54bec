use Rattle.std.proofs.Common.{ℕ, List, refl, ap}
use Rattle.rdf_terms.specs.Quad.{Statement}
use Rattle.rdf_terms.specs.Dataset.{Dataset, PrefixKey}
use Rattle.dataset_tx.proofs.Adding.{known_grown, quads_grown, known_come, quads_come, sorted_same, sorted_come}
use Rattle.dataset_tx.proofs.store.Store.stage_add.Goals as goal

abbrev dataset_of : List Statement → List (PrefixKey × List ℕ) → Dataset
dataset_of quads prefixes = record { quads = quads; prefixes = prefixes }

pub returns-in_err-key-clause-store : goal.returns-in_err-key-clause-store
returns-in_err-key-clause-store c = record {
  each_once = c.number_quad.ensures.grows.each_once;
  known = known_grown _ _ _ _ _ c.number_quad.ensures.grows refl c.requires.known;
  next_known = known_grown _ _ _ _ _ c.number_quad.ensures.grows refl c.requires.next_known;
  sorted = c.requires.sorted;
  next_sorted = c.requires.next_sorted;
}

pub returns-in_err-key-clause-contents : goal.returns-in_err-key-clause-contents
returns-in_err-key-clause-contents c = ap (λ (l : List Statement). dataset_of l c.args.self.now.prefixes.contents) (quads_grown _ _ _ _ _ c.number_quad.ensures.grows refl c.requires.known)

pub returns-in_err-add-clause-store : goal.returns-in_err-add-clause-store
returns-in_err-add-clause-store c = record {
  each_once = c.number_quad.ensures.grows.each_once;
  known = known_grown _ _ _ _ _ c.number_quad.ensures.grows c.add.ensures.contents c.requires.known;
  next_known = known_grown _ _ _ _ _ c.number_quad.ensures.grows c.in_err-add.ensures.err c.requires.next_known;
  sorted = sorted_same _ _ c.add.ensures.contents c.requires.sorted;
  next_sorted = sorted_same _ _ c.in_err-add.ensures.err c.requires.next_sorted;
}

pub returns-in_err-add-clause-contents : goal.returns-in_err-add-clause-contents
returns-in_err-add-clause-contents c = ap (λ (l : List Statement). dataset_of l c.args.self.now.prefixes.contents) (quads_grown _ _ _ _ _ c.number_quad.ensures.grows c.add.ensures.contents c.requires.known)

pub returns-clause-store : goal.returns-clause-store
returns-clause-store c = record {
  each_once = c.number_quad.ensures.grows.each_once;
  known = known_grown _ _ _ _ _ c.number_quad.ensures.grows c.add.ensures.contents c.requires.known;
  next_known = known_come _ _ _ c.in_ok-key.key _ _ c.number_quad.ensures.grows (c.in_ok-key.ensures.known c.quad_is_value.ensures) c.requires.next_known c.in_ok-add.ensures.ok;
  sorted = sorted_same _ _ c.add.ensures.contents c.requires.sorted;
  next_sorted = sorted_come c.in_ok-key.key _ _ c.in_ok-add.ensures.ok c.requires.next_sorted;
}

pub returns-clause-contents : goal.returns-clause-contents
returns-clause-contents c = ap (λ (l : List Statement). dataset_of l c.args.self.now.prefixes.contents) (quads_grown _ _ _ _ _ c.number_quad.ensures.grows c.add.ensures.contents c.requires.known)

pub returns-clause-ok : goal.returns-clause-ok
returns-clause-ok c =
    ap (λ (l : List Statement). dataset_of l c.args.self.now.prefixes.next)
    (quads_come _ _ _ c.in_ok-key.key c.args.quad.now _ _ c.number_quad.ensures.grows (c.in_ok-key.ensures.known c.quad_is_value.ensures) c.in_ok-key.ensures.quad c.requires.next_known c.in_ok-add.ensures.ok)
