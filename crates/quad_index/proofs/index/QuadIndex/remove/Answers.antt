use Rattle.std.proofs.Common.{ap, subst, ◌∙◌, List}
use Rattle.std.specs.List.{AllByRecursion}
use Rattle.std.specs.List.Sorted.{IsStrictlySortedBy}
use Rattle.std.specs.BTreeMap.{is_at}
use Rattle.std.specs.Set.{remove_key}
use Rattle.quad_index.specs.declared.key.QuadKey.{QuadKey}
use Rattle.quad_index.specs.Key.{key_cmp}
use Rattle.quad_index.specs.Order.{placed_cmp}
use Rattle.quad_index.specs.Ordered.{OrderedKeys, keys_of, without_key}
use Rattle.quad_index.proofs.Same.{after_removal, keys_without, written_map}
use Rattle.quad_index.proofs.index.QuadIndex.remove.Goals as goal

pub invariant_of-self : goal.invariant_of-self
invariant_of-self c =
    after_removal c.self.inside.first _ c.self.inside.others.items _ c.args.key.now c.self.invariant c.remove.ensures.sorted
    (subst (λ (l : List OrderedKeys). AllByRecursion (λ kept. IsStrictlySortedBy placed_cmp kept.keys) l) c.deref_mut.ensures.value c.remove_all.ensures.sorted)
    c.remove.ensures.removed
    (written_map (without_key c.args.key.now) _ _ _ _ c.self.inside.others.ok.0 c.deref_mut.ensures.value c.remove_all.ensures.removed)

pub returns-clause-removed : goal.returns-clause-removed
returns-clause-removed c =
    ap keys_of c.remove.ensures.removed ∙ keys_without c.self.inside.first c.args.key.now c.self.invariant.leads
    ∙ ap (λ (l : List QuadKey). remove_key (is_at (key_cmp c.args.key.now)) l) c.self.view_is
