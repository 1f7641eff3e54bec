use Rattle.std.proofs.Common.{◌≡◌, Ok, subst}
use Rattle.patch_log.specs.Ready.{IsMadeOf}
use Rattle.patch_log.proofs.Told.{appended_told, appended_want}
use Rattle.patch_log.proofs.appending.append_made.Goals as goal

pub returns-in-Ok : goal.returns-in-Ok
returns-in-Ok g c run by made =
    let is : IsMadeOf run by (Ok c.in-Ok.ready) = subst (IsMadeOf run by) c.in-Ok.is made in
    rw (← is.0, ← is.1) c.append_ready.ensures.appended

pub returns-in-Accept : goal.returns-in-Accept
returns-in-Accept g c run by made =
    let is : c.in-Err.run' ≡ run = subst (IsMadeOf run by) c.in-Err.is made in
    rw (← is) (appended_want g.D.Disk c.args.log.now c.in-Err.run' by c.decide_here.ensures.stands c.decide_here.ensures.whole c.in-Accept.version c.in-Accept.ensures.decision)

pub returns : goal.returns
returns g c run by made =
    let is : c.in-Err.run' ≡ run = subst (IsMadeOf run by) c.in-Err.is made in
    rw (← is, c.told.ensures) (appended_told g.D.Disk c.args.log.now c.in-Err.run' by c.decide_here.ensures.stands c.decide_here.ensures.whole c.decide_here.result c.decide_here.ensures.decision c.in_default.not-Accept)
