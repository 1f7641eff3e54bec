use Rattle.std.proofs.Common.{List, ℕ, sym, subst}
use Rattle.slot_checks.specs.Checks.{AreKept}
use Rattle.delta_server.specs.Ends.{StopsServe, at_files, at_hall}
use Rattle.command_tables.specs.Views.{shelf_view}
use Rattle.delta_server.proofs.Counted.{counted}
use Rattle.delta_server.proofs.Halls.{refused_failing, refused_length, refused_marked}
use Rattle.delta_server.proofs.Shelving.{back_over, rose_before}
use Rattle.delta_server.proofs.opening.open.Goals as goal

pub returns-in-Err-clause-stopped : goal.returns-in-Err-clause-stopped
returns-in-Err-clause-stopped g c = at_files c.in-Err.refusal c.in-Err.ensures.stopped

pub returns-in-Ok-open_hall-clause-over : goal.returns-in-Ok-open_hall-clause-over
returns-in-Ok-open_hall-clause-over g c = (
  record {
    disks_are = c.in-Ok.disks.items;
    asked = c.in-Ok.ensures.asked;
    opened = c.in-Ok-open_hall.ensures.hall;
    seats = c.in-Ok-open_hall.ensures.seats;
    registry_seats = c.in-Ok-open_hall.ensures.registry_seats;
    each = c.in-Ok-open_hall.ensures.each;
    all = c.in-Ok-open_hall.ensures.passes;
    new = c.in-Ok-open_hall.ensures.new;
  },
  (λ told. c.in-Ok.ensures.kept told),
)

pub returns-in-Err-open_hall-clause-stopped : goal.returns-in-Err-open_hall-clause-stopped
returns-in-Err-open_hall-clause-stopped g c =
    let old = g.H.Shelf.files c.args.shelf.now in
    let mid = g.H.Shelf.files c.take_disks.new.shelf in
    let new = g.H.Shelf.files c.put_back.new.shelf in
    let dir = c.args.dir.now in
    let asked : List g.row.H-D.Denot = c.in-Ok.disks.items in
    let left : List g.row.H-D.Denot = c.in-Err-open_hall.refusal.disks.items in
    let fault = c.in-Err-open_hall.refusal.fault in
    let refused = c.in-Err-open_hall.ensures.refused in
    subst (StopsServe g.H.D.Disk g.H.Shelf dir c.args.workers (shelf_view g.H.Shelf c.args.shelf.now) (shelf_view g.H.Shelf c.put_back.new.shelf)) (sym c.refusal_of.ensures)
    (at_hall fault asked left c.in-Ok.ensures.asked refused
    (λ failed.
    let failing = refused_failing g.H.D.Disk asked fault left refused failed in
    rose_before (g.H.Shelf.faults c.args.shelf.now) (g.H.Shelf.faults c.take_disks.new.shelf) (g.H.Shelf.faults c.put_back.new.shelf) c.take_disks.ensures.never_falls
    (c.put_back.ensures.rises failing.disk failing.stands failing.failed))
    (λ told. counted g.H.D.Disk g.H.Shelf told (g.met.H.Shelf.disks_tell told) dir old asked fault left c.in-Ok.ensures.asked refused)
    (λ told. back_over g.H.D.Disk dir left old mid new
    (subst (λ (n : ℕ). AreKept dir n old mid) (sym (refused_length g.H.D.Disk asked fault left refused)) (c.in-Ok.ensures.kept told))
    (c.put_back.ensures.put_back told dir (refused_marked g.H.D.Disk dir asked fault left refused (c.in-Ok.ensures.asked.marked told)))))
