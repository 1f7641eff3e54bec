use Rattle.std.proofs.Common.{rules, ◌≡◌, ◌++◌, ◌∷◌, [], sym, ap, ◌∙◌}
use Rattle.patch_algebra.specs.Gathered.{skips_from}
use Rattle.dataset_tx.proofs.Rows.{nothing_left}
use Rattle.patch_algebra.proofs.Backwards.{all_changes_gone, last_before, nothing_before, over_taken, stands_still}
use Rattle.patch_algebra.proofs.gathering.Gathering.take_changes.Goals as goal

pub loop-change-preserved-in-Continue-1 : goal.loop-change-preserved-in-Continue-1
loop-change-preserved-in-Continue-1 c =
    let i = c.loop-change.invariant in
    let passed = i.1.0 in let change = c.in-Some.change.now in
    let rest : c.loop-change.rest.now ≡ c.in-Some.before.now ++ change ∷ [] = search rules in (
      c.take_change.ensures.direction ∙ i.0,
      (
        change ∷ passed,
        last_before _ _ _ passed change i.1.1 rest,
        c.skips_before-skips.ensures ∙ ap (λ b. skips_from b change) i.1.2,
        over_taken c.args.base.now.contents c.args.self.now c.loop-change.self c.take_change.new.self change passed i.1.3
            (sym (stands_still _ _ change c.skips_before-skips.ensures i.1.2) ∙ sym c.stands.ensures ∙ c.if-stands.true) c.in_ok-take_change.ensures.ok,
      ),
    )

pub returns-clause-ok : goal.returns-clause-ok
returns-clause-ok c =
    let i = c.loop-change.invariant in
    let none : c.loop-change.rest.now ≡ [] = nothing_left c.loop-change.rest.now (search rules) in
    all_changes_gone c.args.base.now.contents c.args.self.now c.loop-change.self c.args.changes.now i.1.0 (nothing_before _ _ i.1.0 i.1.1 none) i.1.3
