use Rattle.std.proofs.Common.{refl}
use Rattle.zone_state.proofs.Written.{kept_still}
use Rattle.zone_state.proofs.zone.Zone.plan.Goals as goal

pub invariant_of-self : goal.invariant_of-self
invariant_of-self g c =
    let zone = c.self.inside in
    let e = c.plan.ensures in
    kept_still zone.journal zone.kept zone.limits zone.doubt.patch c.self.invariant c.plan.new.self e.stands e.length e.limit

pub returns-clause-same : goal.returns-clause-same
returns-clause-same g c = rw (← c.self.view_is) refl
