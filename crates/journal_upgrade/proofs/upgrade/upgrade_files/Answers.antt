use Rattle.std.proofs.Common.{inl}
use Rattle.disk_model.specs.Past.{reads}
use Rattle.journal_upgrade.proofs.Marker.{nothing_unmarked}
use Rattle.journal_upgrade.proofs.Safety.{safe_kept}
use Rattle.journal_upgrade.proofs.upgrade.upgrade_files.Goals as goal

pub returns-in-Ok-Nothing-clause-safe : goal.returns-in-Ok-Nothing-clause-safe
returns-in-Ok-Nothing-clause-safe g c told payloads safe =
    let here = reads (g.D.Disk.past c.args.set.marker) in
    let nothing = rw c.in-Ok-Nothing.field-0-is at (c.in-Ok-Nothing.ensures.found told) in
    c.upgrade_unmarked.ensures.safe told payloads (safe.unmarked here (g.met.D.Disk.reads_may_be_left c.args.set.marker told) (nothing_unmarked here c.args.set.marker_number nothing))

pub returns-in-Ok-First-clause-safe : goal.returns-in-Ok-First-clause-safe
returns-in-Ok-First-clause-safe g c told payloads safe =
    let here = reads (g.D.Disk.past c.args.set.marker) in
    let first = rw c.in-Ok-First.field-0-is at (c.in-Ok-First.ensures.found told) in
    c.finish.ensures.safe told payloads (safe.marked here (g.met.D.Disk.reads_may_be_left c.args.set.marker told) (first.0, first.1))

pub returns-clause-safe : goal.returns-clause-safe
returns-clause-safe g c told payloads safe = safe_kept g.D.Disk.past c.args.set.numbers.items payloads c.args.set.files.items c.args.set.spares.items (g.D.Disk.past c.front.new.disk) c.args.set.marker_number (g.D.Disk.past c.args.set.marker) (c.front.ensures.kept told) safe

pub returns-clause-fault : goal.returns-clause-fault
returns-clause-fault g c told = inl (c.marker_fault-told.ensures.told (reads (g.D.Disk.past c.args.set.marker)) (c.in-Err.ensures.found told))
