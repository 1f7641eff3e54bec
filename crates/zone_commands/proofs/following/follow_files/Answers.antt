use Rattle.delta_client.specs.Exchanges.{dial_view}
use Rattle.zone_commands.proofs.Checkpoints.{both_went, went_still}
use Rattle.zone_commands.proofs.Followed.{of_disks}
use Rattle.zone_commands.proofs.following.follow_files.Goals as goal

pub returns-in-Ok-clause-ok : goal.returns-in-Ok-clause-ok
returns-in-Ok-clause-ok g c =
    of_disks g.D.Disk g.N.Dial.tells g.N.L.Link.left g.N.L.Link.sent c.args.address.now c.args.name.now (dial_view g.N.Dial c.args.net.now) (dial_view g.N.Dial c.sync-end.new.net)
    c.args.first c.args.second c.in-Ok.zone c.sync-end.new.zone c.sync-end.result c.in-Ok.ensures.opened c.in-Ok.ensures.limits c.in-Ok.ensures.held
    c.sync-end.ensures.limits c.sync-end.ensures.settled c.sync-end.ensures.follows g.met.D.Disk.reads_may_be_left
    c.close-first.result.0 c.close-first.result.1 c.close-first.ensures.first c.close-first.ensures.second

pub returns-in-Ok-clause-went : goal.returns-in-Ok-clause-went
returns-in-Ok-clause-went g c =
    let went = c.sync-end.ensures.went in
    both_went g.D.Disk c.args.first c.args.second c.in-Ok.zone c.sync-end.new.zone c.in-Ok.ensures.opened c.in-Ok.ensures.limits _
    (went_still g.D.Disk c.in-Ok.zone c.sync-end.new.zone _ went.0 went.2)
    c.close-first.result.0 c.close-first.result.1 c.close-first.ensures.first c.close-first.ensures.second
