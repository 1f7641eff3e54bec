-- What the rule of a zone's cell says at any moment.
use Rattle.std.proofs.Common.{List}
use Rattle.disk_model.specs.declared.disk.Disk.{Ghosts}
use Rattle.shared_zone.specs.History.{SharedZone}
use Rattle.turn_cell.specs.Sights.{Made}
use Rattle.turn_cell.specs.Sharing.{IsClosedOf}
use Rattle.turn_cell.proofs.Moments.{at_moment, closed_at}
use Rattle.shared_zone.specs.History.{ZoneSight, shared_zone}
use Rattle.shared_zone.specs.Moments.{ZoneCell, IsZoneMoment}

pub closed : {D : Type 0} (disks : Ghosts D) (made : Made (SharedZone D)) (shared : SharedZone D) (passes : List ZoneSight) (s : ZoneCell disks) → IsZoneMoment disks made shared passes s → IsClosedOf (shared_zone disks) made passes shared
closed disks made shared passes s moment =
    let r = shared_zone disks in
    let at = at_moment r.entries r.fault_count r.doubt r.fixed r.fits made.origin made.seats s moment.rule shared moment.lies in
    closed_at passes r made shared s.views moment.stands at.history at.same_fixed at.untouched moment.passes_are
