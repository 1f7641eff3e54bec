use Rattle.std.proofs.Common.{◌≡◌, ◌≢◌, ◌+◌, ◌∙◌, ◌∷◌, List, length, refl, sym, ap, subst, arith}
use Rattle.delta_session.specs.Opening.{IsOpenedRegistry, IsRefusedRegistry, IsRefusedHall, WasOpened, registry_refused, miscounted, hall_fault_of_registry}
use Rattle.delta_session.specs.declared.fault.HallFault.TheVariants as hall
use Rattle.delta_session.proofs.Opens.{refused_hall}
use Rattle.delta_session.proofs.opening.open_hall.Goals as goal

pub returns-in-Err-clause-refused : goal.returns-in-Err-clause-refused
returns-in-Err-clause-refused g c =
    let first = c.take_first-first.result in
    let more : List g.row.D.Denot = c.take_first-first.new.disks.items in
    let e = c.in-Err.ensures in
    let stop = c.in-Err.field-0 in
    let r = c.refused in
    let is : IsRefusedRegistry g.D.Disk first stop.fault stop.disk = record {
      has = e.fault;
      refused = e.refused;
    } in
    subst (λ (all : List g.row.D.Denot). IsRefusedHall g.D.Disk all r.result.fault r.result.disks.items) (sym c.take_first-first.ensures.disks)
    (refused_hall g.D.Disk first stop.disk more more r.result.disks.items (hall_fault_of_registry stop.fault) r.result.fault r.ensures.disks (r.ensures.fault ∙ c.of_registry.ensures) (registry_refused stop.fault refl is refl))

pub returns-then-len-slots-clause-refused : goal.returns-then-len-slots-clause-refused
returns-then-len-slots-clause-refused g c =
    let first = c.take_first-first.result in
    let more : List g.row.D.Denot = c.take_first-first.new.disks.items in
    let registry = c.in-Ok.registry in
    let e = c.in-Ok.ensures in
    let r = c.refused-then-len-slots in
    let opened : IsOpenedRegistry g.D.Disk first registry = record {
      file = e.payloads;
      sound = e.registry;
      by_nobody = e.by_nobody;
      settled = e.settled;
      reopened = e.reopened;
    } in
    let was : WasOpened g.D.Disk registry.slots first registry.disk = (registry, opened, refl, refl) in
    let count : c.len-then-len-slots.result ≡ length more = omega (arith, c.len-then-len-slots.ensures, c.take_first-first.new.disks.ok.0) in
    let other : length more ≢ registry.slots = λ same. c.if-len-slots.true (omega (arith, c.len.ensures, c.take_first-first.new.disks.ok.0, c.slots-slots.ensures.slots, same)) in
    let told = r.ensures.fault ∙ (λ i. hall.WrongCount (count i + 1) (c.slots-slots.ensures.slots i)) in
    subst (λ (all : List g.row.D.Denot). IsRefusedHall g.D.Disk all r.result.fault r.result.disks.items) (sym c.take_first-first.ensures.disks)
    (refused_hall g.D.Disk first registry.disk more more r.result.disks.items (hall.WrongCount (length more + 1) registry.slots) r.result.fault
    (r.ensures.disks ∙ ap (λ (d : g.row.D.Denot). d ∷ more) c.close.ensures.disk) told (miscounted registry.slots refl was other refl))
