use Rattle.std.proofs.Common.{◌∙◌}
use Rattle.disk_model.specs.Past.{reads}
use Rattle.zone_commands.proofs.Taken.{files_kept, first_read, second_read, still_theirs, untaken_fault}
use Rattle.zone_commands.proofs.visiting.read_zone.Goals as goal

pub returns-in-Ok-clause-kept : goal.returns-in-Ok-clause-kept
returns-in-Ok-clause-kept g c tell =
    let dir = c.args.dir.now in
    let old = g.H.Shelf.files c.args.shelf.now in
    let fresh = c.in-Ok.ensures.taken tell in
    let one = c.read_files-first.ensures.first in
    let two = c.read_files-first.ensures.second in
    let first = c.read_files-first.result.0 in
    let second = c.read_files-first.result.1 in
    let told = g.met.H.Shelf.disks_tell tell in
    files_kept dir (reads (g.H.D.Disk.past first)) (reads (g.H.D.Disk.past second)) old (g.H.Shelf.files c.take_disks.new.shelf) (g.H.Shelf.files c.put_back_disks.new.shelf)
    (c.take_disks.ensures.kept tell)
    (c.put_back_disks.ensures.kept tell dir (still_theirs g.H.D.Disk dir old c.in-Ok.first c.in-Ok.second fresh first second one.mark two.mark))
    ((one.kept told).reads_same ∙ first_read g.H.D.Disk dir old c.in-Ok.first c.in-Ok.second fresh)
    ((two.kept told).reads_same ∙ second_read g.H.D.Disk dir old c.in-Ok.first c.in-Ok.second fresh)

pub returns-in-Err-clause-fault : goal.returns-in-Err-clause-fault
returns-in-Err-clause-fault g c tell = untaken_fault _ _ c.in-Err.fault c.in-Err.ensures.fault
