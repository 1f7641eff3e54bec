use Rattle.std.proofs.Common.{◌≡◌, ◌∙◌, ◌∷◌, List, length, sym, ap, subst, arith}
use Rattle.hall_logs.proofs.Still.{as_many_ended}
use Rattle.delta_session.specs.Halls.{AreNewPasses}
use Rattle.delta_session.specs.Steps.{HallView, HallSight}
use Rattle.delta_session.proofs.Opens.{joined_new, joined_length, all_new}
use Rattle.delta_session.proofs.sharing.share.Goals as goal

pub refused-requires : goal.refused-requires
refused-requires g c =
    let disks = c.close-disks.result in
    omega (arith, disks.ok.0, c.close-disks.ensures.room, as_many_ended g.D.Disk 0 c.args.logs.logs c.args.parts.items disks.items c.close-disks.ensures.ends, c.requires.rooms.1)

pub returns-in-Ok-clause-new : goal.returns-in-Ok-clause-new
returns-in-Ok-clause-new g c =
    let hall : HallView g.row.D.Denot = record { registry = c.in-Ok.registry; logs = c.args.logs } in
    let same : length c.in-Ok.sights.items ≡ length c.args.parts.items = omega (arith, c.in-Ok.sights.ok.0, c.in-Ok.ensures.passes.0, c.requires.parts.0.count, c.requires.seats.0) in
    subst (λ (passes : List HallSight). AreNewPasses g.D.Disk hall 1 passes) (sym c.join.ensures.joined)
    (joined_new g.D.Disk hall 1 c.in-Ok.sights.items c.args.parts.items same c.in-Ok.ensures.new c.requires.parts.1)

pub returns-in-Ok-clause-passes : goal.returns-in-Ok-clause-passes
returns-in-Ok-clause-passes g c =
    let hall : HallView g.row.D.Denot = record { registry = c.in-Ok.registry; logs = c.args.logs } in
    let same : length c.in-Ok.sights.items ≡ length c.args.parts.items = omega (arith, c.in-Ok.sights.ok.0, c.in-Ok.ensures.passes.0, c.requires.parts.0.count, c.requires.seats.0) in
    let passes : List HallSight = c.join.new.passes.items in
    all_new g.D.Disk hall passes (returns-in-Ok-clause-new g c)
    (ap (λ (l : List HallSight). length l) c.join.ensures.joined ∙ joined_length c.in-Ok.sights.items c.args.parts.items same ∙ c.requires.parts.0.count)

pub returns-in-Err-clause-want : goal.returns-in-Err-clause-want
returns-in-Err-clause-want g c =
    let left : List g.row.D.Denot = c.close-disks.result.items in
    let first = c.close.ensures.disk ∙ ap (λ registry. registry.disk) c.in-Err.ensures.back in (
      c.refused.ensures.fault,
      (left, c.refused.ensures.disks ∙ ap (λ (d : g.row.D.Denot). d ∷ left) first, c.close-disks.ensures.idle c.requires.parts.1),
    )
