use Rattle.std.proofs.Common.{sym, ◌∙◌, ap, subst}
use Rattle.chain_core.specs.Log.{up}
use Rattle.world_core.specs.declared.zone.ZonePart.TheVariants.{Up, Down}
use Rattle.world_core.specs.Parts.{IsZoneOf, stopped_if}
use Rattle.world_core.specs.World.{ZonePoint}
use Rattle.world_core.proofs.zone.take_as.Goals as goal

pub returns-in_ok-stop-in-Some : goal.returns-in_ok-stop-in-Some
returns-in_ok-stop-in-Some c taken doubt runs =
    let took = c.in_ok-opened.ensures taken doubt runs in
    subst (λ (point : ZonePoint). IsZoneOf (Down c.in_ok-stop-in-Some.field-0) point) (sym (took.3 ∙ ap (stopped_if (up took.0 took.1)) c.in-Some.is)) (c.in_ok-stop-in-Some.ensures took.0 took.1 took.2)

pub returns-in-None : goal.returns-in-None
returns-in-None c taken doubt runs =
    let took = c.in_ok-opened.ensures taken doubt runs in
    subst (λ (point : ZonePoint). IsZoneOf (Up c.take_by_plan.new.zone) point) (sym (took.3 ∙ ap (stopped_if (up took.0 took.1)) c.in-None.is)) took.2
