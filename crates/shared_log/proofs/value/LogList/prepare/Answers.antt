use Rattle.std.proofs.Common.{ap, sym, refl, ◌∙◌, subst}
use Rattle.patch_log.specs.Ready.{IsMadeOf}
use Rattle.patch_log.specs.Run.{AppendedRun}
use Rattle.patch_log.specs.Tail.{log_of}
use Rattle.shared_log.specs.Legal.{asks_disk}
use Rattle.shared_log.proofs.Preparing.{unasked, told_here, wanted_here}
use Rattle.shared_log.proofs.value.LogList.prepare.Goals as goal

pub returns-in-Accept-clause-told : goal.returns-in-Accept-clause-told
returns-in-Accept-clause-told g c = λ run by made.
    let chain = c.args.self.now.chain in
    let of = subst (IsMadeOf run by) c.in-Ok.is made in
    wanted_here g.D.Disk c.args.work.now.tail chain.items chain.spare c.requires.stands run by c.run.result.now c.in-Accept.version c.in-Accept.ensures (c.run.ensures ∙ of.0)

pub returns-in-Ok : goal.returns-in-Ok
returns-in-Ok g c =
    let chain = c.args.self.now.chain in
    let log = log_of c.args.work.now.tail chain.items chain.spare in
    record {
      items = refl;
      ready = tt;
      takes = tt;
      made = λ run by made. tt;
      as_found = (refl, ap asks_disk c.told.ensures ∙ unasked c.decide.result c.in_default.not-Accept);
      told = λ run by made.
          let of = subst (IsMadeOf run by) c.in-Ok.is made in
          subst (AppendedRun g.D.Disk log log run by) (sym c.told.ensures) (told_here g.D.Disk c.args.work.now.tail chain.items chain.spare c.requires.stands run by c.run.result.now c.decide.result c.decide.ensures (c.run.ensures ∙ of.0) c.in_default.not-Accept);
    }

pub returns-in-Accept-decide-clause-told : goal.returns-in-Accept-decide-clause-told
returns-in-Accept-decide-clause-told g c = λ run by made.
    let chain = c.args.self.now.chain in
    let of = subst (IsMadeOf run by) c.in-Err.is made in
    wanted_here g.D.Disk c.args.work.now.tail chain.items chain.spare c.requires.stands run by c.in-Err.run' c.in-Accept-decide.version c.in-Accept-decide.ensures of

pub returns : goal.returns
returns g c =
    let chain = c.args.self.now.chain in
    let log = log_of c.args.work.now.tail chain.items chain.spare in
    record {
      items = refl;
      ready = tt;
      takes = tt;
      made = λ run by made. tt;
      as_found = (refl, ap asks_disk c.told-in_default-decide.ensures ∙ unasked c.decide-in-Err.result c.in_default-decide.not-Accept);
      told = λ run by made.
          let of = subst (IsMadeOf run by) c.in-Err.is made in
          subst (AppendedRun g.D.Disk log log run by) (sym c.told-in_default-decide.ensures) (told_here g.D.Disk c.args.work.now.tail chain.items chain.spare c.requires.stands run by c.in-Err.run' c.decide-in-Err.result c.decide-in-Err.ensures of c.in_default-decide.not-Accept);
    }
