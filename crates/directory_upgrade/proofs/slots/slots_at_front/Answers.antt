use Rattle.std.proofs.Common.{inl, sym, subst}
use Rattle.disk_model.specs.Past.{reads}
use Rattle.directory_upgrade.specs.Slots.{FrontStops, faulty, untold}
use Rattle.directory_upgrade.proofs.Told.{shown_stops, shown_tells}
use Rattle.directory_upgrade.proofs.slots.slots_at_front.Goals as goal

pub returns-in-Ok-Nothing-clause-fault : goal.returns-in-Ok-Nothing-clause-fault
returns-in-Ok-Nothing-clause-fault g c told = untold (inl (rw c.in-Ok-Nothing.field-0-is at (c.in-Ok-Nothing.ensures.found told)))

pub returns-in-Ok-First-clause-tells : goal.returns-in-Ok-First-clause-tells
returns-in-Ok-First-clause-tells g c told =
    let found = rw c.in-Ok-First.field-0-is at (c.in-Ok-First.ensures.found told) in
    shown_tells (reads (g.D.Disk.past c.args.disk.now)) c.args.number found.0 c.slots_shown.result found.1 (c.slots_shown.ensures.tells found.0 found.2 found.3)

pub returns-in-Ok-First-clause-fault : goal.returns-in-Ok-First-clause-fault
returns-in-Ok-First-clause-fault g c told =
    let found = rw c.in-Ok-First.field-0-is at (c.in-Ok-First.ensures.found told) in
    shown_stops (reads (g.D.Disk.past c.args.disk.now)) c.args.number found.0 c.slots_shown.result found.1 (c.slots_shown.ensures.fault found.0 found.2 found.3)

pub returns-in-Err-clause-fault : goal.returns-in-Err-clause-fault
returns-in-Err-clause-fault g c told =
    subst (FrontStops (reads (g.D.Disk.past c.args.disk.now)) c.args.number) (sym c.of_front.ensures) (faulty c.in-Err.fault (c.in-Err.ensures.found told))
