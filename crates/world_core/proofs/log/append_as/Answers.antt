use Rattle.std.proofs.Common.{◌≡◌, List, length, None, refl, sym, ◌∙◌, subst}
use Rattle.chain_core.specs.declared.chain.Patch.{Patch}
use Rattle.chain_core.specs.Decision.{run_decision}
use Rattle.chain_core.specs.Runs.{patches_in}
use Rattle.chain_core.specs.Stay.{Outcome}
use Rattle.log_base.specs.declared.limits.TheConstants.{LOG_LIMITS}
use Rattle.world_core.specs.declared.log.LogPart.TheVariants.{Up, Down}
use Rattle.world_core.specs.Parts.{IsPartOf}
use Rattle.world_core.specs.World.{appended}
use Rattle.world_core.proofs.Running.{decided_as_run}
use Rattle.world_core.proofs.log.append_as.Goals as goal

pub returns-in_ok-stop-in-Some-clause-part : goal.returns-in_ok-stop-in-Some-clause-part
returns-in_ok-stop-in-Some-clause-part c runs doubt is =
    let patches = c.args.run.now in
    let went = c.in_ok-answer.ensures.stay runs doubt is in
    let as_run = decided_as_run runs patches (run_decision (patches_in runs) patches LOG_LIMITS) c.args.fate doubt went.0 went.1 c.in_ok-answer.answer went.3 in
    let outcome = as_run.0 c.in-Some.opened (sym c.stop_by.ensures ∙ c.in-Some.is) in
    subst (λ (o : Outcome (List Patch)). IsPartOf (Down c.in_ok-stop-in-Some.field-0) (appended (length patches) o).0 × (None ≡ (appended (length patches) o).1)) (sym outcome) (c.in_ok-stop-in-Some.ensures went.0 went.1 went.2, refl)

pub returns-in-None-clause-part : goal.returns-in-None-clause-part
returns-in-None-clause-part c runs doubt is =
    let patches = c.args.run.now in
    let went = c.in_ok-answer.ensures.stay runs doubt is in
    let as_run = decided_as_run runs patches (run_decision (patches_in runs) patches LOG_LIMITS) c.args.fate doubt went.0 went.1 c.in_ok-answer.answer went.3 in
    let outcome = as_run.1 (sym c.stop_by.ensures ∙ c.in-None.is) in
    subst (λ (o : Outcome (List Patch)). IsPartOf (Up c.append_by_plan.new.log) (appended (length patches) o).0 × (c.message_of-message.result ≡ (appended (length patches) o).1)) (sym outcome) (went.2, c.message_of-message.ensures.told)
