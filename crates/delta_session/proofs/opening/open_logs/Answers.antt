use Rattle.std.proofs.Common.{◌≡◌, ◌∙◌, ◌∷◌, List, length, refl, sym, ap, subst, arith}
use Rattle.std.proofs.lemmas.Result.{IfErr-weaker, IfOk-weaker}
use Rattle.log_base.specs.declared.limits.TheConstants.{LOG_LIMITS}
use Rattle.hall_logs.specs.Slots.{EachHasItsSeats}
use Rattle.hall_logs.proofs.Opens.{left_same, left_still}
use Rattle.delta_session.specs.Opening.{WasOpened, wanting, hall_fault_of_log}
use Rattle.delta_session.specs.declared.fault.HallFault.TheVariants as hall
use Rattle.delta_session.proofs.Opens.{logs_refused, refused_count, opened_count, refused_hall}
use Rattle.delta_session.proofs.opening.open_logs.Goals as goal

pub returns-in_default-clause-refused : goal.returns-in_default-clause-refused
returns-in_default-clause-refused g c = λ disk opened.
    let more : List g.row.D.Denot = c.args.disks.items in
    let slots : c.args.registry.slots ≡ length more = omega (arith, c.args.disks.ok.0, c.requires.count) in
    let was : WasOpened g.D.Disk (length more) disk c.args.registry.disk = (c.args.registry, opened, slots, refl) in
    refused_hall g.D.Disk disk c.args.registry.disk more more c.refused.result.disks.items hall.OutOfMemory c.refused.result.fault
    (c.refused.ensures.disks ∙ ap (λ (d : g.row.D.Denot). d ∷ more) c.close.ensures.disk) c.refused.ensures.fault (wanting refl was (left_same g.D.Disk LOG_LIMITS more))

pub share-requires-clause-count : goal.share-requires-clause-count
share-requires-clause-count g c = omega (arith, opened_count g.D.Disk LOG_LIMITS 1 c.args.disks.items c.in-Ok-open_on.logs.logs c.in-Ok-open_on.ensures.logs, c.args.disks.ok.0, c.requires.count)

pub share-requires-clause-rooms : goal.share-requires-clause-rooms
share-requires-clause-rooms g c =
    let e = c.in-Ok-open_on.ensures in
    (e.rooms.0, omega (arith, e.rooms.1, opened_count g.D.Disk LOG_LIMITS 1 c.args.disks.items c.in-Ok-open_on.logs.logs e.logs, c.args.disks.ok.0, c.requires.room))

pub refused-requires-in-Err : goal.refused-requires-in-Err
refused-requires-in-Err g c =
    let e = c.in-Err.ensures in
    let after = c.in-Err.field-0.disks in
    omega (arith, after.ok.0, e.room, refused_count g.D.Disk LOG_LIMITS c.args.disks.items after.items c.in-Err.field-0.file c.in-Err.field-0.fault e.refused e.want, c.args.disks.ok.0, c.requires.room)

pub returns-in-Ok-open_on-clause-each : goal.returns-in-Ok-open_on-clause-each
returns-in-Ok-open_on-clause-each g c = IfOk-weaker c.share.result _ _ (λ r lists. subst EachHasItsSeats (sym lists.1) c.in-Ok-open_on.ensures.each) c.share.ensures.lists

pub returns-in-Ok-open_on-clause-refused : goal.returns-in-Ok-open_on-clause-refused
returns-in-Ok-open_on-clause-refused g c = λ disk opened.
    let more : List g.row.D.Denot = c.args.disks.items in
    let slots : c.args.registry.slots ≡ length more = omega (arith, c.args.disks.ok.0, c.requires.count) in
    let was : WasOpened g.D.Disk (length more) disk c.args.registry.disk = (c.args.registry, opened, slots, refl) in
    IfErr-weaker c.share.result _ _
    (λ refusal want. refused_hall g.D.Disk disk c.args.registry.disk more want.1.0 refusal.disks.items hall.OutOfMemory refusal.fault want.1.1 want.0
    (wanting refl was (left_still g.D.Disk LOG_LIMITS 1 more _ want.1.0 c.in-Ok-open_on.ensures.logs want.1.2))) c.share.ensures.want

pub returns-in-Err-clause-refused : goal.returns-in-Err-clause-refused
returns-in-Err-clause-refused g c = λ disk opened.
    let more : List g.row.D.Denot = c.args.disks.items in
    let slots : c.args.registry.slots ≡ length more = omega (arith, c.args.disks.ok.0, c.requires.count) in
    let was : WasOpened g.D.Disk (length more) disk c.args.registry.disk = (c.args.registry, opened, slots, refl) in
    let e = c.in-Err.ensures in
    let stop = c.in-Err.field-0 in
    let r = c.refused-in-Err in
    refused_hall g.D.Disk disk c.args.registry.disk more stop.disks.items r.result.disks.items (hall_fault_of_log stop.file stop.fault) r.result.fault
    (r.ensures.disks ∙ ap (λ (d : g.row.D.Denot). d ∷ stop.disks.items) c.close-in-Err.ensures.disk) (r.ensures.fault ∙ c.of_log-fault.ensures)
    (logs_refused g.D.Disk disk c.args.registry.disk more stop.disks.items stop.file stop.fault was e.refused e.want)
