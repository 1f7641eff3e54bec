use Rattle.std.proofs.Common.{◌≡◌, List, subst, arith}
use Rattle.chain_core.specs.declared.chain.Patch.{Patch}
use Rattle.chain_core.specs.Decision.{run_decision}
use Rattle.chain_core.specs.Runs.{patches_in}
use Rattle.patch_log.specs.State.{runs_in}
use Rattle.patch_log.proofs.States.{told_is}
use Rattle.patch_log.proofs.Told.{appended_told}
use Rattle.patch_log.proofs.state.LogState.append_reserved.Goals as goal

pub returns-in_default : goal.returns-in_default
returns-in_default g c =
    let log = c.args.self.now in
    let decided = subst (λ (run : List Patch). c.decide_here.result ≡ run_decision (patches_in (runs_in log)) run log.limits) c.run.ensures c.decide_here.ensures.decision in
    rw c.told.ensures (record {
      appended = appended_told g.D.Disk log c.args.ready.run c.args.ready.by c.decide_here.ensures.stands c.decide_here.ensures.whole c.decide_here.result decided c.in_default.not-Accept;
      memory = (told_is c.decide_here.result c.in_default.not-Accept).no_want;
      spare = omega arith;
    })
