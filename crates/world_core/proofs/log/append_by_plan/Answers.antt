use Rattle.std.proofs.Common.{rules, ◌≡◌, ◌≢◌, List, sym, ◌∙◌, ap, subst}
use Rattle.std.specs.Prelude.{IsTrue, not, is_none}
use Rattle.disk_model.specs.Plan.{plan_short, planned_failure}
use Rattle.chain_core.specs.declared.answer.LogAnswer.TheVariants.{OutOfMemory}
use Rattle.chain_core.specs.declared.chain.Patch.{Patch}
use Rattle.chain_core.specs.Runs.{run_text}
use Rattle.chain_core.specs.Stay.{fate_by_plan}
use Rattle.patch_log.specs.Ready.{IsMadeOf}
use Rattle.patch_log.specs.State.{runs_in, point_of}
use Rattle.patch_log.proofs.Writes.{planned as as_planned, images}
use Rattle.world_core.proofs.Planned.{planned_as}
use Rattle.world_core.proofs.Running.{planned_runs, log_leaves, append_ran, counted}
use Rattle.world_core.proofs.log.append_by_plan.Goals as goal

pub returns-clause-stay : goal.returns-clause-stay
returns-clause-stay c runs doubt before =
    let log = c.plan.new.self in
    let new = c.append_made-answer.new.log in
    let run = c.args.run.now in
    let answer = c.append_made-answer.result in
    let is = planned_runs c.args.log.now log runs doubt before c.plan.ensures.same c.plan.ensures.past in
    let made = subst (λ (r : List Patch). IsMadeOf r 1 c.of-made.result) c.in_ok-copy.ensures c.of-made.ensures in
    let went = c.append_made-answer.ensures run 1 made in
    let long : IsTrue (not (plan_short new.disk)) = ap not (sym c.is_short.ensures ∙ c.if-is_short.false) in
    let want : answer ≢ OutOfMemory = search rules in
    let settled : c.is_settled.result ≡ is_none doubt = c.is_settled.ensures ∙ ap is_none before.doubt_is in
    let comes = ap (fate_by_plan doubt) c.plan.ensures.next ∙ planned_as run_text c.is_settled.result c.failing_sync-plan.result c.args.fate c.failing_sync-plan.ensures doubt settled in
    append_ran log new run c.args.fate (planned_failure log.disk) answer runs doubt is (as_planned _ log new run 1 answer went tt long want) comes went.number went.limits (c.chain-chain.ensures.stands tt)
    (images _ log new run 1 answer went tt tt long (log_leaves log runs doubt is))

pub returns-clause-counted : goal.returns-clause-counted
returns-clause-counted c =
    let log = c.plan.new.self in
    let new = c.append_made-answer.new.log in
    let run = c.args.run.now in
    let made = subst (λ (r : List Patch). IsMadeOf r 1 c.of-made.result) c.in_ok-copy.ensures c.of-made.ensures in
    counted log.limits (runs_in log) log.doubt run (point_of new) c.append_made-answer.result (c.append_made-answer.ensures run 1 made).appends
