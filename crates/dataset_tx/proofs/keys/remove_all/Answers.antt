use Rattle.std.proofs.Common.{rules, ◌≡◌, sym, ap, subst, ◌∙◌, List, []}
use Rattle.quad_index.specs.declared.key.QuadKey.{QuadKey}
use Rattle.quad_index.specs.Key.{key_cmp}
use Rattle.std.specs.List.Sorted.{IsStrictlySortedBy}
use Rattle.dataset_tx.specs.Staging.{without}
use Rattle.dataset_tx.proofs.Sets.{one_out, sorted_out, without_none}
use Rattle.dataset_tx.proofs.Rows.{nothing_left}
use Rattle.dataset_tx.proofs.keys.remove_all.Goals as goal

pub loop-key-preserved : goal.loop-key-preserved
loop-key-preserved c = record {
  same = ap (without c.pop_first.new.self.keys) c.remove.ensures.removed
      ∙ one_out c.loop-key.index c.pop_first.new.self.keys c.in-Some.key c.loop-key.invariant.sorted
      ∙ ap (λ (l : List QuadKey). without l c.loop-key.index) (sym c.in-Some.ensures.removal)
      ∙ c.loop-key.invariant.same;
  sorted = subst (IsStrictlySortedBy key_cmp) (sym c.remove.ensures.removed) (sorted_out c.loop-key.index c.in-Some.key c.loop-key.invariant.sorted);
}

pub returns-clause-index : goal.returns-clause-index
returns-clause-index c =
    let none : c.loop-key.keys.keys ≡ [] = nothing_left c.loop-key.keys.keys (search rules) in
    sym (without_none c.loop-key.index) ∙ ap (λ (l : List QuadKey). without l c.loop-key.index) (sym none) ∙ c.loop-key.invariant.same
