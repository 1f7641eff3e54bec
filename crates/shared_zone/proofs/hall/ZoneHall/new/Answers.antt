use Rattle.std.proofs.Common.{sym, Some, ap, ◌∙◌}
use Rattle.shared_zone.specs.History.{SharedZone, zone_fixed_of}
use Rattle.shared_zone.proofs.hall.ZoneHall.new.Goals as goal

pub returns-in-Ok-clause-new : goal.returns-in-Ok-clause-new
returns-in-Ok-clause-new g c = λ k p is.
    let n = c.in-Ok.ensures.new k p is in
    let same = sym c.in-Ok.ensures.turn.0 in
    let seen = n.2 ∙ ap (λ (s : SharedZone g.row.D.Denot). s.history) same in
    let fixed = n.7 ∙ ap (λ (s : SharedZone g.row.D.Denot). Some (zone_fixed_of g.D.Disk.mark s)) same in
    ((n.0, n.8, fixed), n.1, seen, n.3, n.4, n.5, n.6, n.9)
