use Rattle.std.proofs.Common.{subst}
use Rattle.turn_cell.specs.Sights.{Made}
use Rattle.turn_cell.specs.Sharing.{IsClosedOf}
use Rattle.shared_zone.specs.History.{SharedZone, shared_zone}
use Rattle.shared_zone.proofs.hall.ZoneHall.close.Goals as goal

pub returns : goal.returns
returns g c =
    let closed = subst (λ (made : Made (SharedZone g.row.D.Denot)). IsClosedOf (shared_zone g.D.Disk) made c.args.passes.items c.close.result) c.self.view_is c.close.ensures.closed in
    record { closed = (c.close.result, c.into_zone.ensures.same, closed) }
