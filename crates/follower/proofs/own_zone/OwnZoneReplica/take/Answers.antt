use Rattle.std.proofs.Common.{◌≡◌, Ok, Err, refl, ap}
use Rattle.std.specs.Prelude.{IsErrOf}
use Rattle.zone_state.specs.Zone.{ZoneView}
use Rattle.follower.specs.declared.ends.TextRefusal.{TextRefusal}
use Rattle.follower.specs.declared.ends.TextRefusal.TheVariants.{DiskFault}
use Rattle.follower.specs.Footing.{DisksOf}
use Rattle.follower.proofs.Footings.{went_as}
use Rattle.follower.proofs.own_zone.OwnZoneReplica.take.Goals as goal

no_error : (done : Unit {0}) (why : TextRefusal) → IsErrOf (Ok done) why → ⊥
no_error done why is = cc

same_error : (why other : TextRefusal) → IsErrOf {T = Unit {0}} (Err why) other → why ≡ other
same_error why other is = cc

pub returns-in-Ok-clause-takes : goal.returns-in-Ok-clause-takes
returns-in-Ok-clause-takes g c =
    let on = g.Z.Follower.footing in
    let old : ZoneView (DisksOf on) = g.Z.Follower.zone c.args.zone.now in
    let new : ZoneView (DisksOf on) = g.Z.Follower.zone c.take_text.new.zone in
    (refl, c.take_text.ensures.limits, went_as on _ ⊥ old.disk new.disk (λ no. absurd no) (no_error _ DiskFault) c.in-Ok.ensures.went, c.in-Ok.ensures.ok)

pub returns-in-Err-clause-takes : goal.returns-in-Err-clause-takes
returns-in-Err-clause-takes g c =
    let on = g.Z.Follower.footing in
    let old : ZoneView (DisksOf on) = g.Z.Follower.zone c.args.zone.now in
    let new : ZoneView (DisksOf on) = g.Z.Follower.zone c.take_text.new.zone in (
      c.in-Err.ensures.err,
      c.in-Err.ensures.stayed,
      c.take_text.ensures.limits,
      went_as on _ (c.in-Err.refusal ≡ DiskFault) old.disk new.disk (λ is. ap Err is) (same_error c.in-Err.refusal DiskFault) c.in-Err.ensures.went,
      c.in-Err.ensures.untouched,
    )
