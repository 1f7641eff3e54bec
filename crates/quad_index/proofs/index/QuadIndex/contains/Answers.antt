use Rattle.std.proofs.Common.{ap, subst, ◌∙◌, List}
use Rattle.std.specs.List.Sorted.{IsStrictlySortedBy}
use Rattle.quad_index.specs.declared.key.QuadKey.{QuadKey}
use Rattle.quad_index.specs.Key.{key_cmp, has_key}
use Rattle.quad_index.proofs.Same.{first_sorted, keeps_key}
use Rattle.quad_index.proofs.index.QuadIndex.contains.Goals as goal

pub returns-clause-found : goal.returns-clause-found
returns-clause-found c =
    c.contains.ensures.found ∙ keeps_key c.self.inside.first c.args.key.now ∙ ap (λ (l : List QuadKey). has_key l c.args.key.now) c.self.view_is

pub returns-clause-sorted : goal.returns-clause-sorted
returns-clause-sorted c = subst (IsStrictlySortedBy key_cmp) c.self.view_is (first_sorted c.self.inside.first c.self.invariant.leads c.contains.ensures.sorted)
