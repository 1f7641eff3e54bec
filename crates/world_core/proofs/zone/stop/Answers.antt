use Rattle.std.proofs.Common.{ℕ, List, Option, cond, sym, subst}
use Rattle.chain_core.specs.declared.chain.Patch.{Patch}
use Rattle.chain_core.specs.Patches.{texts_of}
use Rattle.log_base.specs.OneMore.{with_one_more}
use Rattle.disk_model.specs.declared.plan.PlanDisk.{PlanDisk}
use Rattle.zone_state.specs.declared.file.TheConstants.{ZONE_NUMBER}
use Rattle.zone_state.specs.Log.{patch_payload}
use Rattle.world_core.specs.Parts.{CarriesPart, KeepsPayloads, RunsZone, KeepsTaken}
use Rattle.world_core.proofs.Running.{if_ok-map}
use Rattle.world_core.proofs.Taking.{stopped_zone}
use Rattle.world_core.proofs.zone.stop.Goals as goal

pub returns : goal.returns
returns c =
    let zone = c.args.zone in
    if_ok-map
    (λ (disk : PlanDisk). (number : ℕ) (payloads : List (List ℕ)) (doubt : Option (List ℕ)) → CarriesPart number c.close.result payloads doubt → KeepsPayloads number disk (cond c.args.opened (with_one_more payloads doubt) payloads))
    (λ (disk : PlanDisk). (taken : List Patch) (doubt : Option Patch) → RunsZone zone taken doubt → KeepsTaken disk (cond c.args.opened (with_one_more taken doubt) taken)) c.stopped_disk.result
    (λ disk keeps taken doubt runs. stopped_zone zone taken doubt c.args.opened disk runs
    (λ carries. keeps ZONE_NUMBER (texts_of taken) (patch_payload doubt) (subst (λ (old : PlanDisk). CarriesPart ZONE_NUMBER old (texts_of taken) (patch_payload doubt)) (sym c.close.ensures.disk) carries))) c.stopped_disk.ensures
