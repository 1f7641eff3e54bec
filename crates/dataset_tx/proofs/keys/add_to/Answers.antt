use Rattle.std.proofs.Common.{rules, ◌≡◌, true, false, sym, ap, ◌∙◌, List, [], ◌∷◌, ◌++◌}
use Rattle.quad_index.specs.declared.key.QuadKey.{QuadKey}
use Rattle.dataset_tx.proofs.Sets.{back_staged, back_ok}
use Rattle.dataset_tx.proofs.Closings.{flipped, unflipped, there_staged, there_contents, there_ok, came_staged, came_contents, came_ok}
use Rattle.dataset_tx.proofs.keys.add_to.Goals as goal

pub returns-then-remove-clause-staged : goal.returns-then-remove-clause-staged
returns-then-remove-clause-staged c = back_staged _ _ _ _ c.args.key c.requires c.remove.ensures.updates.0

pub returns-then-remove-clause-ok : goal.returns-then-remove-clause-ok
returns-then-remove-clause-ok c = back_ok _ _ _ _ c.args.key c.requires (sym c.remove.ensures.test ∙ c.if-remove.true) c.remove.ensures.updates.0

pub returns-then-not-branch-clause-staged : goal.returns-then-not-branch-clause-staged
returns-then-not-branch-clause-staged c =
    let old : c.in_ok-insert.field-0 ≡ false = search rules in
    there_staged _ _ _ _ _ _ c.args.key c.requires c.in_ok-insert.ensures.ok c.if-remove.ensures.unchanged (sym c.remove.ensures.test ∙ c.if-remove.false) (flipped _ _ c.in_ok-insert.ensures.added old) c.reserve.ensures.items

pub returns-then-not-branch-clause-contents : goal.returns-then-not-branch-clause-contents
returns-then-not-branch-clause-contents c =
    let old : c.in_ok-insert.field-0 ≡ false = search rules in
    there_contents _ _ _ _ _ _ c.args.key c.requires c.in_ok-insert.ensures.ok c.if-remove.ensures.unchanged (sym c.remove.ensures.test ∙ c.if-remove.false) (flipped _ _ c.in_ok-insert.ensures.added old) c.reserve.ensures.items

pub returns-then-not-branch-clause-ok : goal.returns-then-not-branch-clause-ok
returns-then-not-branch-clause-ok c =
    let old : c.in_ok-insert.field-0 ≡ false = search rules in
    there_ok _ _ _ c.args.added.now.items _ _ c.args.key c.requires c.in_ok-insert.ensures.ok c.if-remove.ensures.unchanged (sym c.remove.ensures.test ∙ c.if-remove.false) (flipped _ _ c.in_ok-insert.ensures.added old)

pub returns-clause-staged : goal.returns-clause-staged
returns-clause-staged c =
    came_staged _ _ _ _ _ _ c.args.key c.requires c.in_ok-insert.ensures.ok c.if-remove.ensures.unchanged (sym c.remove.ensures.test ∙ c.if-remove.false)
    (c.push_reserved.ensures.items ∙ ap (λ (l : List QuadKey). l ++ c.args.key ∷ []) c.reserve.ensures.items)

pub returns-clause-contents : goal.returns-clause-contents
returns-clause-contents c =
    let new : c.in_ok-insert.field-0 ≡ true = search rules in
    came_contents _ _ _ _ _ _ c.args.key c.requires c.in_ok-insert.ensures.ok c.if-remove.ensures.unchanged (sym c.remove.ensures.test ∙ c.if-remove.false) (unflipped _ _ c.in_ok-insert.ensures.added new)
    (c.push_reserved.ensures.items ∙ ap (λ (l : List QuadKey). l ++ c.args.key ∷ []) c.reserve.ensures.items)

pub returns-clause-ok : goal.returns-clause-ok
returns-clause-ok c = came_ok _ _ _ c.args.added.now.items _ _ c.args.key c.requires c.in_ok-insert.ensures.ok c.if-remove.ensures.unchanged (sym c.remove.ensures.test ∙ c.if-remove.false)
