use Rattle.std.proofs.Common.{◌≡◌, ◌≤◌, List, length, map, sym, ◌∙◌, ap, subst}
use Rattle.log_base.specs.declared.limits.TheConstants.{PATCH_LIMIT}
use Rattle.chain_core.specs.declared.chain.Patch.{Patch}
use Rattle.chain_core.specs.Decision.{run_decision}
use Rattle.chain_core.specs.Patches.{patches_of}
use Rattle.chain_core.specs.Runs.{run_text}
use Rattle.patch_log.proofs.Sound.{map_same}
use Rattle.patch_log.proofs.indexed.IndexedChain.decide.Goals as goal

-- the patches that are sent are those of the run
all_sent : (sent run : List Patch) → sent ≡ run → map (λ (p : Patch). p) sent ≡ run
all_sent sent run is = map_same sent ∙ is

pub decide_run-requires-clause-text : goal.decide_run-requires-clause-text
decide_run-requires-clause-text c =
    let run = c.args.run.now in
    subst (λ (ps : List Patch). length (run_text ps) ≤ PATCH_LIMIT) (sym (all_sent c.as_slice.result.now run (c.as_slice.ensures ∙ c.patches.ensures.patches))) c.patches.ensures.sound.read.short

pub returns : goal.returns
returns c =
    let given = all_sent c.as_slice.result.now c.args.run.now (c.as_slice.ensures ∙ c.patches.ensures.patches) in
    c.decide_run.ensures ∙ ap (λ (r : List Patch). run_decision (patches_of c.args.self.now.items) r c.args.limits.now) given
