use Rattle.std.proofs.Common.{[], List, None}
use Rattle.chain_core.specs.declared.chain.Patch.{Patch}
use Rattle.disk_model.specs.declared.plan.PlanDisk.{PlanDisk}
use Rattle.patch_log.specs.State.{LogView}
use Rattle.world_core.specs.Parts.{KeepsRuns, Runs}
use Rattle.world_core.proofs.Running.{if_ok-map, new_log}
use Rattle.world_core.proofs.log.start.Goals as goal

pub open-requires : goal.open-requires
open-requires c = ([], new_log c.in_ok-disk.disk c.in_ok-disk.ensures)

pub returns : goal.returns
returns c =
    let keeps = new_log c.in_ok-disk.disk c.in_ok-disk.ensures in
    if_ok-map (λ (log : LogView PlanDisk). (runs : List (List Patch)) → KeepsRuns c.in_ok-disk.disk runs → Runs log runs None) (λ (log : LogView PlanDisk). Runs log [] None) c.open.result (λ log runs. runs [] keeps) c.open.ensures
