use Rattle.std.proofs.Common.{◌≡◌, List, sym, subst, arith}
use Rattle.chain_core.specs.declared.answer.Decision.TheVariants.{Accept}
use Rattle.chain_core.specs.declared.answer.LogAnswer.TheVariants.{OutOfMemory}
use Rattle.chain_core.specs.declared.chain.Patch.{Patch}
use Rattle.chain_core.specs.Decision.{run_decision}
use Rattle.chain_core.specs.Runs.{patches_in}
use Rattle.patch_log.specs.State.{LogView, runs_in}
use Rattle.patch_log.specs.Run.{AppendedRun}
use Rattle.patch_log.proofs.Told.{appended_told, appended_want, with_places, with_spare}
use Rattle.patch_log.proofs.state.LogState.append_ready.Goals as goal

pub returns-in-Ok-clause-appended : goal.returns-in-Ok-clause-appended
returns-in-Ok-clause-appended g c =
    let mid = c.reserve_places.new.self in
    let after = c.write_accepted.new.self in
    with_places g.D.Disk c.args.self.now after mid.spare c.args.ready.run c.args.ready.by c.write_accepted.result
    (subst (λ (log : LogView g.row.D.Denot). AppendedRun g.D.Disk log after c.args.ready.run c.args.ready.by c.write_accepted.result) {y = with_spare c.args.self.now mid.spare} c.reserve_places.ensures.same c.write_accepted.ensures.appended)

pub returns-in-Err-clause-appended : goal.returns-in-Err-clause-appended
returns-in-Err-clause-appended g c =
    let log = c.args.self.now in
    let accepted = subst (λ (run : List Patch). Accept c.in-Accept.version ≡ run_decision (patches_in (runs_in log)) run log.limits) c.run.ensures c.in-Accept.ensures.decision in
    subst (λ (after : LogView g.row.D.Denot). AppendedRun g.D.Disk log after c.args.ready.run c.args.ready.by OutOfMemory) (sym c.in-Err.ensures.err)
    (appended_want g.D.Disk log c.args.ready.run c.args.ready.by c.decide_here.ensures.stands c.decide_here.ensures.whole c.in-Accept.version accepted)

pub returns-in_default : goal.returns-in_default
returns-in_default g c =
    let log = c.args.self.now in
    let decided = subst (λ (run : List Patch). c.decide_here.result ≡ run_decision (patches_in (runs_in log)) run log.limits) c.run.ensures c.decide_here.ensures.decision in
    rw c.told.ensures (record {
      appended = appended_told g.D.Disk log c.args.ready.run c.args.ready.by c.decide_here.ensures.stands c.decide_here.ensures.whole c.decide_here.result decided c.in_default.not-Accept;
      spare = omega arith;
    })
