use Rattle.std.proofs.Common.{rules, ◌≡◌, ◌∷◌, ◌∙◌}
use Rattle.term_table.specs.Table.{most}
use Rattle.dataset_tx.proofs.Growing.{wider, then_grows}
use Rattle.dataset_tx.proofs.Meeting.{part_here, part_behind, met_grown, more_met}
use Rattle.dataset_tx.proofs.Walks.{walked}
use Rattle.dataset_tx.proofs.store.Store.stage_kept.Goals as goal

pub changes-preserved : goal.changes-preserved
changes-preserved c =
    let first : c.changes.rest.now ≡ c.in-Some.change.now ∷ c.in-Some.behind.now = search rules in
    let step = walked c.changes.mode c.mode_behind-mode.result _ _ _ _ _ c.changes.invariant.fits first c.mode_behind-mode.ensures c.in_ok-stage_one.ensures.ok in
    record {
      store = c.stage_one.ensures.store;
      contents = c.stage_one.ensures.contents ∙ c.changes.invariant.contents;
      fits = step.0;
      same = step.1 ∙ c.changes.invariant.same;
      part = part_behind c.args.changes.now _ _ _ first c.changes.invariant.part;
      grows = then_grows _ _ _ _ c.changes.invariant.grows (wider _ _ _ _ (part_here c.args.changes.now _ _ _ first c.changes.invariant.part) c.stage_one.ensures.grows);
    }

pub returns-in_err-stage_one-clause-met : goal.returns-in_err-stage_one-clause-met
returns-in_err-stage_one-clause-met c =
    let first : c.changes.rest.now ≡ c.in-Some.change.now ∷ c.in-Some.behind.now = search rules in
    met_grown c.args.changes.now _ _ (then_grows _ _ _ _ c.changes.invariant.grows (wider _ _ _ _ (part_here c.args.changes.now _ _ _ first c.changes.invariant.part) c.stage_one.ensures.grows))

pub returns-in_err-stage_one-clause-full : goal.returns-in_err-stage_one-clause-full
returns-in_err-stage_one-clause-full c h =
    let first : c.changes.rest.now ≡ c.in-Some.change.now ∷ c.in-Some.behind.now = search rules in
    let part = part_here c.args.changes.now _ _ _ first c.changes.invariant.part in
    more_met most c.args.changes.now _ _ _ (then_grows _ _ _ _ c.changes.invariant.grows (wider _ _ _ _ part c.stage_one.ensures.grows)) part (c.stage_one.ensures.full (search rules))
