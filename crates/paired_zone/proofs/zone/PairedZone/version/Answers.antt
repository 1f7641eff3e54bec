use Rattle.paired_zone.proofs.Standing.{stands_at}
use Rattle.paired_zone.proofs.zone.PairedZone.version.Goals as goal

pub returns-clause-stands : goal.returns-clause-stands
returns-clause-stands g c =
    let zone = c.self.inside in
    rw (← c.self.view_is) (c.self.invariant.point, stands_at zone.files zone.kept zone.limits zone.doubt.patch c.self.invariant)
