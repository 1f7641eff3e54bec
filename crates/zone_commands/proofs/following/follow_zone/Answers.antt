use Rattle.std.proofs.Common.{◌≡◌, true, false}
use Rattle.disk_model.specs.Past.{reads}
use Rattle.zone_files.specs.Generation.{number_of}
use Rattle.follower.specs.declared.ends.SyncEnd.TheVariants.{DiskFault}
use Rattle.paired_zone.specs.declared.fault.PairFault.TheVariants.{Failed}
use Rattle.delta_client.specs.Exchanges.{dial_view}
use Rattle.zone_commands.specs.Disks.{first_bytes, second_bytes}
use Rattle.zone_commands.proofs.Followed.{of_shelf}
use Rattle.zone_commands.proofs.Taken.{first_back, first_read, have_read, second_back, second_read, theirs_behind, untaken_fault, well_behind}
use Rattle.zone_commands.proofs.following.follow_zone.Goals as goal

pub returns-in-Ok-clause-ok : goal.returns-in-Ok-clause-ok
returns-in-Ok-clause-ok g c =
    let dir = c.args.dir.now in
    let old = g.H.Shelf.files c.args.shelf.now in
    let mid = g.H.Shelf.files c.take_disks.new.shelf in
    let new = g.H.Shelf.files c.put_back_disks.new.shelf in
    let e = c.follow_files-first.ensures in
    let first = c.follow_files-first.result.0 in
    let second = c.follow_files-first.result.1 in
    of_shelf g.N.L.Link.left g.N.L.Link.sent g.H.D.Disk.tells g.H.Shelf.tells g.N.Dial.tells (λ tell. g.met.H.Shelf.disks_tell tell) c.args.address.now c.args.name.now (dial_view g.N.Dial c.args.net.now) (dial_view g.N.Dial c.follow_files-first.new.net) (reads (g.H.D.Disk.past c.in-Ok.first)) (reads (g.H.D.Disk.past c.in-Ok.second)) (reads (g.H.D.Disk.past first)) (reads (g.H.D.Disk.past second)) (first_bytes old dir) (second_bytes old dir) (first_bytes new dir) (second_bytes new dir) c.follow_files-first.result.2
    (λ tell. first_read g.H.D.Disk dir old c.in-Ok.first c.in-Ok.second (c.in-Ok.ensures.taken tell))
    (λ tell. second_read g.H.D.Disk dir old c.in-Ok.first c.in-Ok.second (c.in-Ok.ensures.taken tell))
    (λ tell. first_back dir (reads (g.H.D.Disk.past first)) (reads (g.H.D.Disk.past second)) mid new (c.put_back_disks.ensures.kept tell dir (theirs_behind g.H.D.Disk dir old c.in-Ok.first c.in-Ok.second (c.in-Ok.ensures.taken tell) (λ end. end ≡ DiskFault) (λ fault. fault ≡ Failed (number_of false)) (λ fault. fault ≡ Failed (number_of true)) first second c.follow_files-first.result.2 e.went e.first e.second)))
    (λ tell. second_back dir (reads (g.H.D.Disk.past first)) (reads (g.H.D.Disk.past second)) mid new (c.put_back_disks.ensures.kept tell dir (theirs_behind g.H.D.Disk dir old c.in-Ok.first c.in-Ok.second (c.in-Ok.ensures.taken tell) (λ end. end ≡ DiskFault) (λ fault. fault ≡ Failed (number_of false)) (λ fault. fault ≡ Failed (number_of true)) first second c.follow_files-first.result.2 e.went e.first e.second)))
    e.ok

pub returns-in-Ok-clause-well : goal.returns-in-Ok-clause-well
returns-in-Ok-clause-well g c =
    well_behind g.H.D.Disk (λ end. end ≡ DiskFault) c.in-Ok.first c.in-Ok.second c.follow_files-first.result.0 c.follow_files-first.result.1 (g.H.Shelf.faults c.args.shelf.now) (g.H.Shelf.faults c.take_disks.new.shelf) (g.H.Shelf.faults c.put_back_disks.new.shelf)
    c.follow_files-first.result.2 c.follow_files-first.ensures.went c.in-Ok.ensures.fresh c.put_back_disks.ensures.stays c.in-Ok.ensures.well

pub returns-in-Ok-clause-others : goal.returns-in-Ok-clause-others
returns-in-Ok-clause-others g c tell =
    let dir = c.args.dir.now in
    let old = g.H.Shelf.files c.args.shelf.now in
    let e = c.follow_files-first.ensures in
    let first = c.follow_files-first.result.0 in
    let second = c.follow_files-first.result.1 in
    (have_read dir (reads (g.H.D.Disk.past first)) (reads (g.H.D.Disk.past second)) old (g.H.Shelf.files c.take_disks.new.shelf) (g.H.Shelf.files c.put_back_disks.new.shelf)
    (c.take_disks.ensures.kept tell)
    (c.put_back_disks.ensures.kept tell dir (theirs_behind g.H.D.Disk dir old c.in-Ok.first c.in-Ok.second (c.in-Ok.ensures.taken tell) (λ end. end ≡ DiskFault) (λ fault. fault ≡ Failed (number_of false)) (λ fault. fault ≡ Failed (number_of true)) first second c.follow_files-first.result.2 e.went e.first e.second))).others

pub returns-in-Err-clause-fault : goal.returns-in-Err-clause-fault
returns-in-Err-clause-fault g c tell = untaken_fault _ _ c.in-Err.fault c.in-Err.ensures.fault
