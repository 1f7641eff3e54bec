use Rattle.std.proofs.Common.{◌≡◌, ◌+◌, length, sym, subst, arith}
use Rattle.chain_core.specs.declared.chain.Patch.{Patch}
use Rattle.chain_core.specs.Log.{up}
use Rattle.chain_core.specs.Stay.{stay}
use Rattle.log_base.specs.declared.limits.TheConstants.{LOG_LIMITS}
use Rattle.world_core.specs.Parts.{IsZoneOf}
use Rattle.world_core.specs.World.{ZonePoint}
use Rattle.world_core.proofs.Zoning.{handed_next, count_of}
use Rattle.world_core.proofs.zones.hand.Goals as goal

pub returns : goal.returns
returns c taken doubt runs =
    let count = count_of c.args.zone taken doubt runs in
    let next : c.args.version ≡ length taken + 1 = omega (arith, count, c.version.ensures.version) in
    let stayed = c.in_ok-part.ensures taken doubt runs in
    let same : IsZoneOf c.in_ok-part.part (stay LOG_LIMITS (up taken doubt) c.args.patch.now c.args.fate).0 =
    subst (λ (patch : Patch). IsZoneOf c.in_ok-part.part (stay LOG_LIMITS (up taken doubt) patch c.args.fate).0) c.in_ok-checked.ensures stayed in
    subst (λ (point : ZonePoint). IsZoneOf c.in_ok-part.part point) (sym (handed_next LOG_LIMITS taken doubt c.args.version c.args.patch.now c.args.fate next)) same
