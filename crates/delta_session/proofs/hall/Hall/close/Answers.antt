use Rattle.std.proofs.Common.{◌∷◌, List, length, map, sym, ap, subst, arith}
use Rattle.turn_cell.specs.Sharing.{AreAllPassesOf, IsClosedOf}
use Rattle.shared_log.specs.History.{LogSight}
use Rattle.shared_registry.specs.History.{RegistrySight, shared_registry}
use Rattle.hall_logs.specs.Ends.{AreEnded}
use Rattle.hall_logs.specs.Slots.{AreAllHallPasses}
use Rattle.hall_logs.proofs.Still.{as_many_ended}
use Rattle.delta_session.specs.Ends.{IsEnded, RoomView}
use Rattle.delta_session.specs.Halls.{AreHallPasses}
use Rattle.delta_session.specs.Steps.{HallView, HallSight}
use Rattle.delta_session.proofs.Opens.{registry_passes, logs_passes, registry_ended}
use Rattle.delta_session.proofs.hall.Hall.close.Goals as goal

pub close-requires : goal.close-requires
close-requires g c =
    let passes : List HallSight = c.args.passes.passes.items in
    let hall : HallView g.row.D.Denot = record { registry = c.self.inside.registry; logs = c.self.inside.logs } in
    let are = subst (λ (h : HallView g.row.D.Denot). AreHallPasses g.D.Disk h passes) (sym c.self.view_is) c.requires.passes in
    subst (λ (sights : List RegistrySight). AreAllPassesOf (shared_registry g.D.Disk) hall.registry sights) (sym c.part.ensures.sights) (registry_passes g.D.Disk hall passes are c.self.invariant.1)

pub close-disks-requires-clause-passes : goal.close-disks-requires-clause-passes
close-disks-requires-clause-passes g c =
    let passes : List HallSight = c.args.passes.passes.items in
    let hall : HallView g.row.D.Denot = record { registry = c.self.inside.registry; logs = c.self.inside.logs } in
    let are = subst (λ (h : HallView g.row.D.Denot). AreHallPasses g.D.Disk h passes) (sym c.self.view_is) c.requires.passes in
    subst (λ (parts : List (List LogSight)). AreAllHallPasses g.D.Disk hall.logs.logs hall.logs.seats parts) (sym c.part.ensures.parts) (logs_passes g.D.Disk hall passes are)

pub put_first-requires : goal.put_first-requires
put_first-requires g c =
    let disks = c.close-disks.result in
    let e = c.close-disks.ensures in
    omega (
      arith,
      disks.ok.0,
      e.room,
      as_many_ended g.D.Disk 0 c.self.inside.logs.logs c.part.new.parts.items disks.items e.ends,
      c.requires.room.disks,
      ap (λ (r : RoomView). r.rooms.disks) c.room.view_is,
      ap (λ (h : HallView g.row.D.Denot). length h.logs.logs) c.self.view_is,
    )

pub returns : goal.returns
returns g c =
    let passes : List HallSight = c.args.passes.passes.items in
    let hall : HallView g.row.D.Denot = record { registry = c.self.inside.registry; logs = c.self.inside.logs } in
    let first = c.close-first.result in
    let more : List g.row.D.Denot = c.close-disks.result.items in
    let closed = subst (λ (sights : List RegistrySight). IsClosedOf (shared_registry g.D.Disk) hall.registry sights c.close.result) c.part.ensures.sights c.close.ensures.closed in
    let logs = subst (λ (parts : List (List LogSight)). AreEnded g.D.Disk 0 hall.logs.logs parts more) c.part.ensures.parts c.close-disks.ensures.ends in
    let registry = registry_ended g.D.Disk hall.registry (map (λ (pass : HallSight). pass.lists.registry) passes) c.close.result first c.close-first.ensures.disk closed (g.met.D.Disk.reads_may_be_left first) in
    let both : IsEnded g.D.Disk hall passes (first ∷ more) = (registry, logs) in record {
      ended = subst (λ (z : HallView g.row.D.Denot × List g.row.D.Denot). IsEnded g.D.Disk z.0 passes z.1) (λ i. (c.self.view_is i, sym c.put_first.ensures.disks i)) both;
    }
