use Rattle.std.proofs.Common.{◌≤◌, List, length, sym, ap, subst, ◌∙◌}
use Rattle.log_base.specs.declared.limits.TheConstants.{PATCH_LIMIT}
use Rattle.chain_core.specs.declared.chain.Patch.{Patch}
use Rattle.chain_core.specs.Runs.{run_text}
use Rattle.patch_log.proofs.ready.Ready.of.Goals as goal

pub block_of-requires : goal.block_of-requires
block_of-requires c =
    subst (λ (ps : List Patch). length (run_text ps) ≤ PATCH_LIMIT) (sym (c.as_slice.ensures ∙ c.patches.ensures.patches)) c.patches.ensures.sound.read.short

pub invariant_of-result : goal.invariant_of-result
invariant_of-result c = record {
  block_is = c.in-Ok.ensures ∙ ap run_text (c.as_slice.ensures ∙ c.patches.ensures.patches);
  sound = c.patches.ensures.sound;
}
