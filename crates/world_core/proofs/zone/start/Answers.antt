use Rattle.std.proofs.Common.{[], List, None}
use Rattle.chain_core.specs.declared.chain.Patch.{Patch}
use Rattle.disk_model.specs.declared.plan.PlanDisk.{PlanDisk}
use Rattle.zone_state.specs.Zone.{ZoneView}
use Rattle.world_core.specs.Parts.{KeepsTaken, RunsZone}
use Rattle.world_core.proofs.Running.{if_ok-map}
use Rattle.world_core.proofs.Taking.{new_zone}
use Rattle.world_core.proofs.zone.start.Goals as goal

pub open-requires : goal.open-requires
open-requires c = ([], new_zone c.in_ok-disk.disk c.in_ok-disk.ensures)

pub returns : goal.returns
returns c =
    let keeps = new_zone c.in_ok-disk.disk c.in_ok-disk.ensures in
    if_ok-map (λ (zone : ZoneView PlanDisk). (taken : List Patch) → KeepsTaken c.in_ok-disk.disk taken → RunsZone zone taken None) (λ (zone : ZoneView PlanDisk). RunsZone zone [] None) c.open.result (λ zone runs. runs [] keeps) c.open.ensures
