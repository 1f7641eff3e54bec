use Rattle.std.proofs.Common.{ℕ, List, Option, cond, sym, subst}
use Rattle.chain_core.specs.declared.chain.Patch.{Patch}
use Rattle.chain_core.specs.Runs.{run_texts}
use Rattle.log_base.specs.OneMore.{with_one_more}
use Rattle.disk_model.specs.declared.plan.PlanDisk.{PlanDisk}
use Rattle.patch_log.specs.Log.{run_payload}
use Rattle.world_core.specs.declared.log.TheConstants.{LOG_NUMBER}
use Rattle.world_core.specs.Parts.{CarriesPart, KeepsPayloads, Runs, KeepsRuns}
use Rattle.world_core.proofs.Running.{if_ok-map, log_carries, stopped_log}
use Rattle.world_core.proofs.log.stop.Goals as goal

pub returns : goal.returns
returns c =
    let log = c.args.log in
    if_ok-map
    (λ (disk : PlanDisk). (number : ℕ) (payloads : List (List ℕ)) (doubt : Option (List ℕ)) → CarriesPart number c.close.result payloads doubt → KeepsPayloads number disk (cond c.args.opened (with_one_more payloads doubt) payloads))
    (λ (disk : PlanDisk). (runs : List (List Patch)) (doubt : Option (List Patch)) → Runs log runs doubt → KeepsRuns disk (cond c.args.opened (with_one_more runs doubt) runs)) c.stopped_disk.result
    (λ disk keeps runs doubt is.
    let carries = subst (λ (old : PlanDisk). CarriesPart LOG_NUMBER old (run_texts runs) (run_payload doubt)) (sym c.close.ensures.disk) (log_carries log runs doubt is) in
    stopped_log log runs doubt c.args.opened disk is (keeps LOG_NUMBER (run_texts runs) (run_payload doubt) carries)) c.stopped_disk.ensures
