use Rattle.std.proofs.Common.{subst}
use Rattle.follower.specs.declared.ends.SyncEnd.{SyncEnd}
use Rattle.zone_follower.specs.Following.{Followed}
use Rattle.zone_follower.specs.Causes.{FollowCause}
use Rattle.zone_follower.proofs.Caused.{has_cause}
use Rattle.zone_follower.proofs.Staying.{run_on}
use Rattle.zone_follower.proofs.following.follow.Goals as goal

pub returns-clause-followed : goal.returns-clause-followed
returns-clause-followed g c =
    let all = c.catch_up.ensures.run in
    (all.0, record { run_end = c.catch_up.result; ended = c.sync_end.ensures; taken = all.1 }, all.2)

pub returns-clause-caught_up : goal.returns-clause-caught_up
returns-clause-caught_up g c = λ version is.
    let all = c.catch_up.ensures.run in
    let followed : Followed g.D.Disk c.args.hall.now.origin c.args.pass.now all.0 c.sync_end.result c.catch_up.new.state = record { run_end = c.catch_up.result; ended = c.sync_end.ensures; taken = all.1 } in
    (subst (λ (e : SyncEnd). FollowCause g.D.Disk c.args.hall.now.origin c.args.pass.now all.0 c.catch_up.new.state e) is
    (has_cause g.D.Disk c.args.hall.now.origin c.args.pass.now all.0 c.catch_up.new.state c.sync_end.result followed)).0

pub returns-clause-sees_on : goal.returns-clause-sees_on
returns-clause-sees_on g c =
    let all = c.catch_up.ensures.run in
    run_on g.D.Disk c.args.hall.now.origin c.args.pass.now c.catch_up.new.state all.0 c.catch_up.result all.1

pub returns-clause-disk : goal.returns-clause-disk
returns-clause-disk g c = λ is.
    let all = c.catch_up.ensures.run in
    let followed : Followed g.D.Disk c.args.hall.now.origin c.args.pass.now all.0 c.sync_end.result c.catch_up.new.state = record { run_end = c.catch_up.result; ended = c.sync_end.ensures; taken = all.1 } in
    (subst (λ (e : SyncEnd). FollowCause g.D.Disk c.args.hall.now.origin c.args.pass.now all.0 c.catch_up.new.state e) is
    (has_cause g.D.Disk c.args.hall.now.origin c.args.pass.now all.0 c.catch_up.new.state c.sync_end.result followed)).2
