use Rattle.std.proofs.Common.{◌∙◌, ap, length, arith}
use Rattle.turn_cell.specs.Sights.{Made}
use Rattle.shared_zone.specs.History.{SharedZone}
use Rattle.shared_zone.proofs.hall.ZoneHall.version.Goals as goal

pub overflow_cast-result : goal.overflow_cast-result
overflow_cast-result g c =
    let few = c.count.ensures.test _ (c.count.ensures.same.0.3 ∙ c.requires.of.2) in
    let count = c.count.ensures.count in
    omega (arith, few, count)

pub overflow_add-result : goal.overflow_add-result
overflow_add-result g c =
    let few = c.count.ensures.test _ (c.count.ensures.same.0.3 ∙ c.requires.of.2) in
    let count = c.count.ensures.count in
    let opened = c.self.invariant in
    let same = ap (λ (made : Made (SharedZone g.row.D.Denot)). length made.origin.base.ids) c.self.view_is in
    omega (arith, few, count, opened, same)
