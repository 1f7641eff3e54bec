use Rattle.std.proofs.Common.{◌≤◌, List, length, subst, arith}
use Rattle.log_base.specs.declared.limits.TheConstants.{PATCH_LIMIT}
use Rattle.chain_core.specs.declared.chain.Patch.{Patch}
use Rattle.patch_log.proofs.Checking.{few_in_run}
use Rattle.patch_log.proofs.run.Run.count.Goals as goal

pub overflow_cast-result : goal.overflow_cast-result
overflow_cast-result c = omega (arith, few_in_run c.self.inside.patches.items c.self.invariant, c.len.ensures)

pub returns-clause-few : goal.returns-clause-few
returns-clause-few c = subst (λ (run : List Patch). length run ≤ PATCH_LIMIT) c.self.view_is (few_in_run c.self.inside.patches.items c.self.invariant)
