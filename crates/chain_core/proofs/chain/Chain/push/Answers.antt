use Rattle.std.proofs.Common.{◌≤◌, length, arith}
use Rattle.log_base.specs.declared.limits.TheConstants.{PATCH_LIMIT}
use Rattle.chain_core.proofs.Patches.{length_bound, last_short}
use Rattle.chain_core.proofs.chain.Chain.push.Goals as goal

pub overflow_add-self-2 : goal.overflow_add-self-2
overflow_add-self-2 c =
    let more : length c.args.patch.text ≤ PATCH_LIMIT = last_short _ _ c.requires.kept.short in
    let bound = length_bound c.self.inside.entries.items c.self.invariant.kept.short in
    omega (arith, c.self.invariant.bytes_is, c.self.invariant.kept.few, bound, more)
