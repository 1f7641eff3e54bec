use Rattle.std.proofs.Common.{refl, [], ◌∷◌}
use Rattle.zone_session.proofs.answering.Answering.catch_up.Goals as goal

pub returns-clause-syncs : goal.returns-clause-syncs
returns-clause-syncs g c =
    let e = c.follow-end.ensures in
    let run = e.followed.0 in (
      run ∷ [],
      (
        run,
        c.follow-end.result,
        refl,
        record {
          followed = e.followed.1;
          asked = e.followed.2;
          caught_up = e.caught_up;
          sees_on = e.sees_on;
          disk = e.disk;
          link = e.link;
          never_falls = e.never_falls;
          held = e.held;
        },
        c.say_sync.ensures.says,
      ),
    )
