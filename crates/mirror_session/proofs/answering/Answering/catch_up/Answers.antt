use Rattle.std.proofs.Common.{◌∷◌, [], refl}
use Rattle.mirror_session.proofs.answering.Answering.catch_up.Goals as goal

pub returns-clause-pulls : goal.returns-clause-pulls
returns-clause-pulls g c =
    let e = c.pull-end.ensures in (
      e.pulled.0 ∷ [],
      (
        e.pulled.0,
        c.pull-end.result,
        refl,
        record {
          pulled = e.pulled.1;
          asked = e.pulled.2;
          caught_up = e.caught_up;
          sees_on = e.sees_on;
          whole = e.whole;
          disk = e.disk;
          link = e.link;
          never_falls = e.never_falls;
          held = e.held;
        },
        c.say_pull.ensures.says,
      ),
    )
