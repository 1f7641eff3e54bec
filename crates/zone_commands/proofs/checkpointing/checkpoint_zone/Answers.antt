use Rattle.std.proofs.Common.{◌≡◌, true, false}
use Rattle.disk_model.specs.Past.{reads}
use Rattle.zone_files.specs.Generation.{number_of}
use Rattle.paired_zone.specs.declared.answer.CheckEnd.TheVariants.{DiskFault}
use Rattle.paired_zone.specs.declared.fault.PairFault.TheVariants.{Failed}
use Rattle.zone_commands.specs.Disks.{first_bytes, second_bytes}
use Rattle.zone_commands.proofs.Checkpoints.{of_shelf}
use Rattle.zone_commands.proofs.Taken.{first_back, first_read, have_read, second_back, second_read, theirs_behind, untaken_fault}
use Rattle.zone_commands.proofs.checkpointing.checkpoint_zone.Goals as goal

pub returns-in-Ok-clause-ok : goal.returns-in-Ok-clause-ok
returns-in-Ok-clause-ok g c =
    let dir = c.args.dir.now in
    let old = g.H.Shelf.files c.args.shelf.now in
    let mid = g.H.Shelf.files c.take_disks.new.shelf in
    let new = g.H.Shelf.files c.put_back_disks.new.shelf in
    let e = c.checkpoint_files-first.ensures in
    let first = c.checkpoint_files-first.result.0 in
    let second = c.checkpoint_files-first.result.1 in
    of_shelf g.H.D.Disk.tells g.H.Shelf.tells (λ tell. g.met.H.Shelf.disks_tell tell) (reads (g.H.D.Disk.past c.in-Ok.first)) (reads (g.H.D.Disk.past c.in-Ok.second)) (reads (g.H.D.Disk.past first)) (reads (g.H.D.Disk.past second)) (first_bytes old dir) (second_bytes old dir) (first_bytes new dir) (second_bytes new dir)
    (λ tell. first_read g.H.D.Disk dir old c.in-Ok.first c.in-Ok.second (c.in-Ok.ensures.taken tell))
    (λ tell. second_read g.H.D.Disk dir old c.in-Ok.first c.in-Ok.second (c.in-Ok.ensures.taken tell))
    (λ tell. first_back dir (reads (g.H.D.Disk.past first)) (reads (g.H.D.Disk.past second)) mid new (c.put_back_disks.ensures.kept tell dir (theirs_behind g.H.D.Disk dir old c.in-Ok.first c.in-Ok.second (c.in-Ok.ensures.taken tell) (λ end. end ≡ DiskFault) (λ fault. fault ≡ Failed (number_of false)) (λ fault. fault ≡ Failed (number_of true)) first second c.checkpoint_files-first.result.2 e.went e.first e.second)))
    (λ tell. second_back dir (reads (g.H.D.Disk.past first)) (reads (g.H.D.Disk.past second)) mid new (c.put_back_disks.ensures.kept tell dir (theirs_behind g.H.D.Disk dir old c.in-Ok.first c.in-Ok.second (c.in-Ok.ensures.taken tell) (λ end. end ≡ DiskFault) (λ fault. fault ≡ Failed (number_of false)) (λ fault. fault ≡ Failed (number_of true)) first second c.checkpoint_files-first.result.2 e.went e.first e.second)))
    c.checkpoint_files-first.result.2 e.ok

pub returns-in-Ok-clause-others : goal.returns-in-Ok-clause-others
returns-in-Ok-clause-others g c tell =
    let dir = c.args.dir.now in
    let old = g.H.Shelf.files c.args.shelf.now in
    let e = c.checkpoint_files-first.ensures in
    let first = c.checkpoint_files-first.result.0 in
    let second = c.checkpoint_files-first.result.1 in
    (have_read dir (reads (g.H.D.Disk.past first)) (reads (g.H.D.Disk.past second)) old (g.H.Shelf.files c.take_disks.new.shelf) (g.H.Shelf.files c.put_back_disks.new.shelf)
    (c.take_disks.ensures.kept tell)
    (c.put_back_disks.ensures.kept tell dir (theirs_behind g.H.D.Disk dir old c.in-Ok.first c.in-Ok.second (c.in-Ok.ensures.taken tell) (λ end. end ≡ DiskFault) (λ fault. fault ≡ Failed (number_of false)) (λ fault. fault ≡ Failed (number_of true)) first second c.checkpoint_files-first.result.2 e.went e.first e.second))).others

pub returns-in-Err-clause-fault : goal.returns-in-Err-clause-fault
returns-in-Err-clause-fault g c tell = untaken_fault _ _ c.in-Err.fault c.in-Err.ensures.fault
