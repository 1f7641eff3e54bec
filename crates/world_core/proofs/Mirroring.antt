-- What a mirror has begins the log.
use Rattle.std.proofs.Common.{◌≡◌, ◌≢◌, ℕ, ◌+◌, Bool, true, false, cond, eqb, List, [], ◌∷◌, ◌++◌, length, Option, Some, None, refl, sym, ap, subst, arith}
use Rattle.std.specs.Prelude.{fold, slice_get}
use Rattle.std.proofs.lemmas.Bool.{eqb-true, eq-eqb}
use Rattle.std.proofs.lemmas.Bool.Decides.{nat_tests}
use Rattle.disk_model.specs.declared.plan.PlanDisk.{PlanDisk}
use Rattle.log_base.specs.declared.limits.LogLimits.{LogLimits}
use Rattle.log_base.specs.declared.limits.TheConstants.{LOG_LIMITS}
use Rattle.log_base.specs.OneMore.{with_one_more}
use Rattle.chain_core.specs.declared.chain.Patch.{Patch}
use Rattle.chain_core.specs.declared.fate.Fate.{Fate}
use Rattle.chain_core.specs.Decision.{run_decision}
use Rattle.chain_core.specs.Log.{LogPoint, up, down}
use Rattle.chain_core.specs.Patches.{patch_at}
use Rattle.chain_core.specs.Runs.{patches_in}
use Rattle.chain_core.specs.Stay.{run_stay}
use Rattle.chain_core.proofs.Runs.{patches_in-push}
use Rattle.patch_log.specs.State.{LogView}
use Rattle.world_core.specs.declared.log.LogPart.{LogPart}
use Rattle.world_core.specs.declared.log.LogPart.TheVariants.{Up, Down}
use Rattle.world_core.specs.declared.message.Message.{Message}
use Rattle.world_core.specs.declared.message.Message.TheVariants.{Accepted, Info, Item}
use Rattle.world_core.specs.declared.mirror.MirrorEvent.{MirrorEvent}
use Rattle.world_core.specs.declared.mirror.MirrorEvent.TheVariants.{Origin, Take, MirrorStop, MirrorOpen}
use Rattle.world_core.specs.Parts.{IsPartOf, EveryImageOf, HoldsRuns, KeepsRuns, Runs}
use Rattle.world_core.specs.World.{WorldPoint, step, MayBeFound, BeginsLog}
use Rattle.world_core.specs.Mirrors.{MirrorPoint, next_appended, message_taken, mirror_after, mirror_step, mirror_start, mirrored}
use Rattle.world_core.proofs.Growing.{chain_of, GrowsTo, Each, grows_on, decided_each, stopped_each, opened_again_each, found_each, next_front, sending_grows}
use Rattle.world_core.proofs.Worlds.{AreServed, none_served, step_serves}
use Rattle.world_core.proofs.Following.{contained, begins_log}
use Rattle.world_core.proofs.Running.{images_found, weaker_images}

-- the patches of runs begin the chain
abbrev Begin : List Patch → List (List Patch) → Type 0
Begin chain runs = GrowsTo (patches_in runs) chain

-- all that may be found of a mirror does
abbrev Mirrors : List Patch → LogPoint (List Patch) → Type 0
Mirrors chain log = Each (Begin chain) log

mirrors_on : (before after : List Patch) (log : LogPoint (List Patch)) → GrowsTo before after → Mirrors before log → Mirrors after log
mirrors_on before after (up runs doubt) grows begin = (grows_on (patches_in runs) before after begin.0 grows, grows_on (patches_in (with_one_more runs doubt)) before after begin.1 grows)
mirrors_on before after (down runs) grows begin = grows_on (patches_in runs) before after begin grows

-- the next patch of the chain may be appended with any fate
next_mirrors : (limits : LogLimits) (chain : List Patch) (version : ℕ) (patch : Patch) (fate : Fate) (log : LogPoint (List Patch)) → patch_at chain version ≡ Some patch → Mirrors chain log → Mirrors chain (next_appended limits log version patch fate)
next_mirrors limits chain version patch fate (down runs) at begin = begin
next_mirrors limits chain version patch fate (up runs doubt) at begin = by_test (eqb version (length (patches_in runs) + 1)) refl
  where
    longer : version ≡ length (patches_in runs) + 1 → Begin chain (runs ++ (patch ∷ []) ∷ [])
    longer is = subst (λ (patches : List Patch). GrowsTo patches chain) (sym (patches_in-push runs (patch ∷ []))) (next_front (patches_in runs) chain version patch begin.0 is at)

    by_test : (b : Bool) → eqb version (length (patches_in runs) + 1) ≡ b → Mirrors chain (cond b (run_stay limits (up runs doubt) (patch ∷ []) fate).0 (up runs doubt))
    by_test true is = decided_each runs doubt (patch ∷ []) (Begin chain) begin fate (run_decision (patches_in runs) (patch ∷ []) limits) (λ v accepts. longer (eqb-true version (length (patches_in runs) + 1) is))
    by_test false is = begin

-- so may any message that was sent be taken
taken_mirrors : (limits : LogLimits) (point : WorldPoint) (place : ℕ) (fate : Fate) (log : LogPoint (List Patch)) (message : Option Message) → slice_get point.pool place ≡ message → AreServed point → Mirrors (chain_of point.log) log
    → Mirrors (chain_of point.log) (message_taken limits message fate log)
taken_mirrors limits point place fate log None is served begin = begin
taken_mirrors limits point place fate log (Some (Accepted first version)) is served begin = begin
taken_mirrors limits point place fate log (Some (Info version head)) is served begin = begin
taken_mirrors limits point place fate log (Some (Item version patch)) is served begin =
    next_mirrors limits (chain_of point.log) version patch fate log (served version patch (contained point.pool place (Item version patch) is)) begin

-- what was sent stands in the log, and all that may be found of the mirror begins it
abbrev MirrorFollows : MirrorPoint → Type 0
MirrorFollows point = AreServed point.origin × Mirrors (chain_of point.origin.log) point.log

step_follows : (limits : LogLimits) (point : MirrorPoint) (event : MirrorEvent) → MirrorFollows point → MirrorFollows (mirror_step limits point event)
step_follows limits point (Origin event) is =
    (step_serves limits point.origin event is.0, mirrors_on (chain_of point.origin.log) (chain_of (step limits point.origin event).log) point.log (sending_grows limits point.origin.log event) is.1)
step_follows limits point (Take message fate) is = (is.0, taken_mirrors limits point.origin message fate point.log (slice_get point.origin.pool message) refl is.0 is.1)
step_follows limits point (MirrorStop opened) is = (is.0, stopped_each (Begin (chain_of point.origin.log)) point.log opened is.1)
step_follows limits point MirrorOpen is = (is.0, opened_again_each (Begin (chain_of point.origin.log)) point.log is.1)

fold_follows : (limits : LogLimits) (point : MirrorPoint) (events : List MirrorEvent) → MirrorFollows point → MirrorFollows (fold (mirror_step limits) point events)
fold_follows limits point [] is = is
fold_follows limits point (event ∷ events) is = fold_follows limits (mirror_step limits point event) events (step_follows limits point event is)

always : (limits : LogLimits) (events : List MirrorEvent) → MirrorFollows (mirrored limits events)
always limits events = fold_follows limits mirror_start events (none_served, (([], refl), ([], refl)))

pub mirror_begins : (limits : LogLimits) (events : List MirrorEvent) (found : List (List Patch)) → MayBeFound (mirrored limits events).log found → BeginsLog (mirrored limits events).origin.log (patches_in found)
mirror_begins limits events found may =
    let point = mirrored limits events in
    begins_log point.origin (patches_in found) (found_each (Begin (chain_of point.origin.log)) point.log found (always limits events).1 may)

-- ---- in each image

-- a log of the code whose patches begin the log
abbrev pub Promises : LogLimits → List MirrorEvent → LogPart → Type 0
Promises limits events part = EveryImageOf part (HoldsRuns (λ runs. BeginsLog (mirrored limits events).origin.log (patches_in runs)))

pub mirror_promises : (limits : LogLimits) (events : List MirrorEvent) (part : LogPart) → IsPartOf part (mirrored limits events).log → Promises limits events part
mirror_promises limits events part is =
    let point = mirrored limits events in
    weaker_images part (HoldsRuns (MayBeFound point.log)) (HoldsRuns (λ runs. BeginsLog point.origin.log (patches_in runs))) (λ image holds. (holds.0, mirror_begins limits events holds.0 holds.1, holds.2)) (images_found part point.log is)

-- ---- the calls of a mirror keep up with the events

pub appended_next : (limits : LogLimits) (runs : List (List Patch)) (doubt : Option (List Patch)) (version : ℕ) (patch : Patch) (fate : Fate) → version ≡ length (patches_in runs) + 1 → next_appended limits (up runs doubt) version patch fate ≡ (run_stay limits (up runs doubt) (patch ∷ []) fate).0
appended_next limits runs doubt version patch fate is = ap (λ (b : Bool). cond b (run_stay limits (up runs doubt) (patch ∷ []) fate).0 (up runs doubt)) (eq-eqb version (length (patches_in runs) + 1) is)

pub appended_other : (limits : LogLimits) (runs : List (List Patch)) (doubt : Option (List Patch)) (version : ℕ) (patch : Patch) (fate : Fate) → version ≢ length (patches_in runs) + 1 → next_appended limits (up runs doubt) version patch fate ≡ up runs doubt
appended_other limits runs doubt version patch fate other =
    let differ : eqb version (length (patches_in runs) + 1) ≡ false = grind (arith, nat_tests) in
    ap (λ (b : Bool). cond b (run_stay limits (up runs doubt) (patch ∷ []) fate).0 (up runs doubt)) differ

-- a mirror that is up is stopped
pub stopped_part : (part : LogPart) (log : LogView PlanDisk) (pool : List Message) (event : MirrorEvent) (opened : Bool) (disk : PlanDisk) → part ≡ Up log → event ≡ MirrorStop opened
    → ((runs : List (List Patch)) → (doubt : Option (List Patch)) → Runs log runs doubt → KeepsRuns disk (cond opened (with_one_more runs doubt) runs))
    → (point : LogPoint (List Patch)) → IsPartOf part point → IsPartOf (Down disk) (mirror_after LOG_LIMITS pool event point)
stopped_part part log pool event opened disk same stops left point is =
    subst (λ (e : MirrorEvent). IsPartOf (Down disk) (mirror_after LOG_LIMITS pool e point)) (sym stops) (by_point point (subst (λ (p : LogPart). IsPartOf p point) same is))
  where
    by_point : (p : LogPoint (List Patch)) → IsPartOf (Up log) p → IsPartOf (Down disk) (mirror_after LOG_LIMITS pool (MirrorStop opened) p)
    by_point (up runs doubt) runs_so = left runs doubt runs_so
    by_point (down runs) runs_so = absurd runs_so
