use Rattle.std.proofs.Common.{◌≡◌, Bool, Option, sym, ◌∙◌, ap, subst}
use Rattle.std.specs.Prelude.{IsTrue, not, is_none}
use Rattle.disk_model.specs.Plan.{plan_short, planned_failure}
use Rattle.chain_core.specs.Stay.{fate_by_plan}
use Rattle.disk_model.specs.declared.plan.PlanDisk.{PlanDisk}
use Rattle.zone_state.specs.Zone.{ZoneView, doubt_of}
use Rattle.patch_log.specs.Log.{bare}
use Rattle.zone_state.proofs.Took.{planned as as_planned, images}
use Rattle.world_core.specs.Parts.{run_as}
use Rattle.world_core.proofs.Planned.{planned_as}
use Rattle.world_core.proofs.Taking.{text_of, Took, planned_runs, took_runs, settled_so}
use Rattle.world_core.proofs.zone.take_by_plan.Goals as goal

pub returns-in_default : goal.returns-in_default
returns-in_default c taken doubt before =
    let zone = c.plan.new.self in
    let new = c.take_next-answer.new.self in
    let answer = c.take_next-answer.result in
    let runs = planned_runs c.args.zone.now zone taken doubt before c.plan.ensures.same c.plan.ensures.past in
    let took = c.take_next-answer.ensures.stay runs.checked zone.doubt runs.stands c.in_default.not-TermsFull c.in_default.not-OutOfMemory in
    let long : IsTrue (not (plan_short new.disk)) = ap not (sym c.is_short.ensures ∙ c.if-is_short.false) in
    let settled = c.is_settled.ensures ∙ sym (ap (λ (z : ZoneView PlanDisk). is_none z.doubt) c.plan.ensures.same) ∙ settled_so zone.doubt in
    let planned : fate_by_plan (doubt_of zone.doubt) (planned_failure zone.disk) ≡ run_as (doubt_of zone.doubt) c.args.fate =
    ap (fate_by_plan (doubt_of zone.doubt)) c.plan.ensures.next ∙ planned_as text_of c.is_settled.result c.failing_sync-plan.result c.args.fate c.failing_sync-plan.ensures (doubt_of zone.doubt) settled in
    subst (λ (stop : Option Bool). Took new taken doubt (bare c.args.patch.now) c.args.fate stop) (sym c.stop_by.ensures)
    (took_runs zone new taken doubt c.args.patch.now c.args.fate (planned_failure zone.disk) answer runs took.stands (c.take_next-answer.ensures.limits ∙ runs.limits_is) (as_planned _ zone new runs.checked zone.doubt c.args.patch.now answer took tt long) planned
    (images _ zone new runs.checked zone.doubt c.args.patch.now answer took tt tt long runs.leaves))
