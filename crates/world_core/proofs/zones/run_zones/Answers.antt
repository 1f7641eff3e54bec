use Rattle.std.proofs.Common.{[], ◌∷◌, ◌++◌, List, None, sym, subst}
use Rattle.chain_core.specs.Log.{up}
use Rattle.log_base.specs.declared.limits.TheConstants.{LOG_LIMITS}
use Rattle.world_core.specs.declared.event.WorldEvent.{WorldEvent}
use Rattle.world_core.specs.declared.zone.ZonePart.{ZonePart}
use Rattle.world_core.specs.declared.zone.ZonePart.TheVariants.{Up}
use Rattle.world_core.specs.Parts.{AreZonesOf}
use Rattle.world_core.specs.World.{zones_after}
use Rattle.world_core.proofs.Zoning.{zones_push}
use Rattle.world_core.proofs.zones.run_zones.Goals as goal

pub returns-in_ok-push-in-NewZone : goal.returns-in_ok-push-in-NewZone
returns-in_ok-push-in-NewZone c points are =
    let pushed = zones_push c.args.zones.items points (Up c.in_ok-start-in-NewZone.field-0) (up [] None) are c.in_ok-start-in-NewZone.ensures in
    subst (λ (event : WorldEvent). AreZonesOf c.push.new.self.items (zones_after LOG_LIMITS c.args.pool.now.items points event)) (sym c.in-NewZone.is)
    (subst (λ (parts : List ZonePart). AreZonesOf parts (points ++ up [] None ∷ [])) (sym c.in_ok-push-in-NewZone.ensures.ok) pushed)
