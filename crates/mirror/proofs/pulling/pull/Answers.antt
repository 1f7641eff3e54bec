use Rattle.std.proofs.Common.{sym, ◌∙◌}
use Rattle.mirror.proofs.Running.{run_went, run_faulted, run_caught_up}
use Rattle.mirror.proofs.pulling.pull.Goals as goal

pub returns-clause-pulled : goal.returns-clause-pulled
returns-clause-pulled g c =
    let all = c.catch_up.ensures.run in (
      all.0,
      record {
        run_end = c.catch_up.result;
        ended = c.end_of.ensures;
        taken = all.1;
        answered_first = λ version is.
            (run_caught_up g.D.Disk c.args.log.now.origin c.args.pass.now c.catch_up.new.state all.0 c.catch_up.result version all.1 (sym c.end_of.ensures ∙ is)).0;
      },
      all.2,
    )

pub returns-clause-caught_up : goal.returns-clause-caught_up
returns-clause-caught_up g c = λ version is.
    let all = c.catch_up.ensures.run in
    (run_caught_up g.D.Disk c.args.log.now.origin c.args.pass.now c.catch_up.new.state all.0 c.catch_up.result version all.1 (sym c.end_of.ensures ∙ is)).1

pub returns-clause-sees_on : goal.returns-clause-sees_on
returns-clause-sees_on g c =
    let all = c.catch_up.ensures.run in
    (run_went g.D.Disk c.args.log.now.origin c.args.pass.now c.catch_up.new.state all.0 c.catch_up.result all.1).0

pub returns-clause-whole : goal.returns-clause-whole
returns-clause-whole g c =
    let all = c.catch_up.ensures.run in
    let went = run_went g.D.Disk c.args.log.now.origin c.args.pass.now c.catch_up.new.state all.0 c.catch_up.result all.1 in
    (went.1, went.2)

pub returns-clause-disk : goal.returns-clause-disk
returns-clause-disk g c = λ is.
    let all = c.catch_up.ensures.run in
    run_faulted g.D.Disk c.args.log.now.origin c.args.pass.now c.catch_up.new.state all.0 c.catch_up.result all.1 (sym c.end_of.ensures ∙ is)
