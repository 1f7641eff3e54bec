use Rattle.std.proofs.Common.{◌≡◌, ℕ, List, Option, cond, ◌∙◌, ap}
use Rattle.log_base.specs.OneMore.{with_one_more}
use Rattle.disk_model.specs.Past.{began, image_of}
use Rattle.disk_model.specs.Plan.{plan_past}
use Rattle.disk_model.specs.declared.plan.PlanDisk.{PlanDisk}
use Rattle.world_core.specs.Parts.{CarriesPart, KeepsPayloads}
use Rattle.world_core.proofs.Carried.{stop_keeps}
use Rattle.world_core.proofs.Running.{if_ok-map}
use Rattle.world_core.proofs.disks.stopped_disk.Goals as goal

pub returns : goal.returns
returns c =
    let old = c.args.disk in
    let value : c.in_ok-image.image ≡ image_of (plan_past old) (cond c.args.opened 257 0) = c.in_ok-image.ensures.value ∙ ap (image_of (plan_past old)) c.image_left.ensures in
    if_ok-map (λ (disk : PlanDisk). plan_past disk ≡ began c.in_ok-image.image)
    (λ (disk : PlanDisk). (number : ℕ) (payloads : List (List ℕ)) (doubt : Option (List ℕ)) → CarriesPart number old payloads doubt → KeepsPayloads number disk (cond c.args.opened (with_one_more payloads doubt) payloads)) c.new.result
    (λ disk fresh number payloads doubt carries. stop_keeps number c.args.opened old payloads doubt c.in_ok-image.image disk carries value c.in_ok-image.ensures.may_be_left fresh) c.new.ensures.past
