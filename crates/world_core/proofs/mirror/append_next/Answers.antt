use Rattle.std.proofs.Common.{◌≡◌, ◌≢◌, ◌+◌, [], ◌∷◌, List, Option, length, sym, ap, ◌∙◌, subst, arith}
use Rattle.std.proofs.lemmas.List.{length-map}
use Rattle.disk_model.specs.declared.plan.PlanDisk.{PlanDisk}
use Rattle.log_base.specs.declared.limits.TheConstants.{LOG_LIMITS}
use Rattle.chain_core.specs.declared.chain.Patch.{Patch}
use Rattle.chain_core.specs.Log.{LogPoint, up}
use Rattle.chain_core.specs.Patches.{patch_of}
use Rattle.chain_core.specs.Runs.{patches_in}
use Rattle.chain_core.specs.Stay.{run_stay}
use Rattle.chain_core.proofs.Runs.{patches_in-runs}
use Rattle.patch_log.specs.State.{LogView}
use Rattle.world_core.specs.declared.log.LogPart.TheVariants.{Up}
use Rattle.world_core.specs.Parts.{IsPartOf, Runs}
use Rattle.world_core.proofs.Mirroring.{appended_next, appended_other}
use Rattle.world_core.proofs.mirror.append_next.Goals as goal

count_of : (log : LogView PlanDisk) (runs : List (List Patch)) (doubt : Option (List Patch)) → Runs log runs doubt → length log.entries ≡ length (patches_in runs)
count_of log runs doubt is = sym (length-map log.entries patch_of) ∙ ap length (sym (patches_in-runs log.entries) ∙ ap patches_in is.runs_are)

pub returns : goal.returns
returns c runs doubt is =
    let count = count_of c.args.log runs doubt is in
    let next : c.args.version ≡ length (patches_in runs) + 1 = omega (arith, count, c.version.ensures.version, ap length c.chain.ensures.entries) in
    let stayed = (c.in_ok-sent.ensures.part runs doubt is).0 in
    let alone : c.in_ok-one.one ≡ c.args.patch.now ∷ [] = c.in_ok-one.ensures ∙ ap (λ (patch : Patch). patch ∷ []) c.in_ok-checked.ensures in
    let same : IsPartOf c.in_ok-sent.sent.0 (run_stay LOG_LIMITS (up runs doubt) (c.args.patch.now ∷ []) c.args.fate).0 =
    subst (λ (run : List Patch). IsPartOf c.in_ok-sent.sent.0 (run_stay LOG_LIMITS (up runs doubt) run c.args.fate).0) alone stayed in
    subst (λ (point : LogPoint (List Patch)). IsPartOf c.in_ok-sent.sent.0 point) (sym (appended_next LOG_LIMITS runs doubt c.args.version c.args.patch.now c.args.fate next)) same

pub returns-then-from : goal.returns-then-from
returns-then-from c runs doubt is =
    let count = count_of c.args.log runs doubt is in
    let other : c.args.version ≢ length (patches_in runs) + 1 = λ same. c.if-from.true (omega (arith, same, count, c.version.ensures.version, ap length c.chain.ensures.entries, c.from.ensures, c.from-2.ensures)) in
    subst (λ (point : LogPoint (List Patch)). IsPartOf (Up c.args.log) point) (sym (appended_other LOG_LIMITS runs doubt c.args.version c.args.patch.now c.args.fate other)) is
