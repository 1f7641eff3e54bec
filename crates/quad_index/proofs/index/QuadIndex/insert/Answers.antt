use Rattle.std.proofs.Common.{rules, ◌≡◌, true, false, not, sym, ap, subst, ◌∙◌, List}
use Rattle.std.specs.List.{AllByRecursion}
use Rattle.std.specs.BTreeSet.{insert_key}
use Rattle.quad_index.specs.declared.key.QuadKey.{QuadKey}
use Rattle.quad_index.specs.Key.{key_cmp, has_key}
use Rattle.quad_index.specs.Ordered.{OrderedKeys, keeps, keys_of, with_key, without_key}
use Rattle.quad_index.proofs.Same.{keeps_key, keys_with, all_absent, out_again}
use Rattle.quad_index.proofs.Same.{after_insertion, as_before, written_map, written_same}
use Rattle.quad_index.proofs.index.QuadIndex.insert.Goals as goal

pub returns-then-not-branch-clause-added : goal.returns-then-not-branch-clause-added
returns-then-not-branch-clause-added c =
    let none : false ≡ not (keeps c.self.inside.first c.args.key) = search rules in
    none ∙ ap not (keeps_key c.self.inside.first c.args.key ∙ ap (λ (l : List QuadKey). has_key l c.args.key) c.self.view_is)

pub returns-then-not-branch-clause-ok : goal.returns-then-not-branch-clause-ok
returns-then-not-branch-clause-ok c =
    ap keys_of c.in_ok-insert.ensures.ok ∙ keys_with c.self.inside.first c.args.key c.self.invariant.leads
    ∙ ap (λ (l : List QuadKey). insert_key key_cmp l c.args.key) c.self.view_is

pub insert_new-requires : goal.insert_new-requires
insert_new-requires c =
    let absent : keeps c.self.inside.first c.args.key ≡ false = search rules in
    subst (λ (l : List OrderedKeys). AllByRecursion (λ kept. keeps kept c.args.key ≡ false) l) (sym c.deref_mut.ensures.value)
    (all_absent c.self.inside.first c.self.inside.others.items c.args.key c.self.invariant.same absent)

pub invariant_of-self-in-Ok : goal.invariant_of-self-in-Ok
invariant_of-self-in-Ok c =
    after_insertion c.self.inside.first _ c.self.inside.others.items _ c.args.key c.self.invariant c.in_ok-insert.ensures.ok
    (written_map (with_key c.args.key) _ _ _ _ c.self.inside.others.ok.0 c.deref_mut.ensures.value c.in-Ok.ensures.ok)

pub returns-in-Ok-clause-added : goal.returns-in-Ok-clause-added
returns-in-Ok-clause-added c =
    let some : true ≡ not (keeps c.self.inside.first c.args.key) = search rules in
    some ∙ ap not (keeps_key c.self.inside.first c.args.key ∙ ap (λ (l : List QuadKey). has_key l c.args.key) c.self.view_is)

pub returns-in-Ok-clause-ok : goal.returns-in-Ok-clause-ok
returns-in-Ok-clause-ok c =
    ap keys_of c.in_ok-insert.ensures.ok ∙ keys_with c.self.inside.first c.args.key c.self.invariant.leads
    ∙ ap (λ (l : List QuadKey). insert_key key_cmp l c.args.key) c.self.view_is

pub invariant_of-self-in-Err : goal.invariant_of-self-in-Err
invariant_of-self-in-Err c =
    let absent : keeps c.self.inside.first c.args.key ≡ false = search rules in
    as_before c.self.inside.first _ c.self.inside.others.items _ c.self.invariant
    (c.remove.ensures.removed ∙ ap (without_key c.args.key) c.in_ok-insert.ensures.ok ∙ out_again c.self.inside.first c.args.key absent)
    (written_same _ _ _ _ c.self.inside.others.ok.0 c.deref_mut.ensures.value c.in-Err.ensures.err)

pub returns-in-Err-clause-err : goal.returns-in-Err-clause-err
returns-in-Err-clause-err c =
    let absent : keeps c.self.inside.first c.args.key ≡ false = search rules in
    ap keys_of (c.remove.ensures.removed ∙ ap (without_key c.args.key) c.in_ok-insert.ensures.ok ∙ out_again c.self.inside.first c.args.key absent) ∙ c.self.view_is
