use Rattle.std.proofs.Common.{◌≡◌, ◌<◌, ◌≤◌, List, length, get_or, sym, ◌∙◌, ap, subst, arith}
use Rattle.std.proofs.Math.ListN.{set}
use Rattle.log_base.specs.declared.limits.TheConstants.{LOG_LIMITS}
use Rattle.world_core.specs.declared.zone.ZonePart.{ZonePart}
use Rattle.world_core.specs.Parts.{IsZoneOf, AreZonesOf}
use Rattle.world_core.specs.World.{ZonePoint, changed_at, zone_after}
use Rattle.world_core.proofs.Zoning.{zones_set, zones_past, zone_at}
use Rattle.world_core.proofs.zones.change.Goals as goal

pub returns-then-place-len : goal.returns-then-place-len
returns-then-place-len c points are =
    let change = zone_after LOG_LIMITS c.args.pool.now.items c.args.event.now in
    let past : length c.args.zones.items ≤ c.args.zone = omega (arith, ap length c.into_vec-parts.ensures) in
    subst (λ (parts : List ZonePart). AreZonesOf parts (changed_at c.args.zone change points)) (sym (c.from_vec.ensures ∙ c.into_vec-parts.ensures)) (zones_past c.args.zones.items points c.args.zone change are past)

pub run_zone-requires-clause-zone : goal.run_zone-requires-clause-zone
run_zone-requires-clause-zone c =
    let within : c.args.zone < length c.args.zones.items = omega (arith, ap length c.into_vec-parts.ensures) in
    let found : c.replace-found.result ≡ get_or c.args.zones.items c.args.zone c.index_mut.result.now =
    c.replace-found.ensures.value ∙ c.index_mut.ensures.value ∙ ap (λ (parts : List ZonePart). get_or parts c.args.zone c.index_mut.result.now) c.into_vec-parts.ensures in
    let here = zone_at c.args.zones.items c.requires.zones.0 c.args.zone c.index_mut.result.now c.requires.zones.1 within in
    (here.0, subst (λ (part : ZonePart). IsZoneOf part here.0) (sym found) here.1)

pub returns : goal.returns
returns c points are =
    let items = c.args.zones.items in
    let place = c.args.zone in
    let change = zone_after LOG_LIMITS c.args.pool.now.items c.args.event.now in
    let within : place < length items = omega (arith, ap length c.into_vec-parts.ensures) in
    let found : c.replace-found.result ≡ get_or items place c.index_mut.result.now =
    c.replace-found.ensures.value ∙ c.index_mut.ensures.value ∙ ap (λ (parts : List ZonePart). get_or parts place c.index_mut.result.now) c.into_vec-parts.ensures in
    let keeps : (point : ZonePoint) → IsZoneOf (get_or items place c.index_mut.result.now) point → IsZoneOf c.in_ok-part.part (change point) =
    λ point is. c.in_ok-part.ensures point (subst (λ (part : ZonePart). IsZoneOf part point) (sym found) is) in
    let whole : c.from_vec-3.result.items ≡ set (set items place c.replace-found.new.dest) place c.in_ok-part.part =
    c.from_vec-3.ensures ∙ ap (λ (parts : List ZonePart). set (set parts place c.replace-found.new.dest) place c.replace-blank.new.dest) c.into_vec-parts.ensures
    ∙ ap (λ (part : ZonePart). set (set items place c.replace-found.new.dest) place part) c.replace-blank.ensures.after in
    subst (λ (parts : List ZonePart). AreZonesOf parts (changed_at place change points)) (sym whole) (zones_set items points place c.index_mut.result.now c.replace-found.new.dest c.in_ok-part.part change are within keeps)
