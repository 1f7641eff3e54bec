-- What a stay leaves is a log.
use Rattle.std.proofs.Common.{◌≡◌, ℕ, ◌≤◌, Bool, true, false, cond, List, [], ◌∷◌, ◌++◌, length, Option, Some, None, refl, sym, ◌∙◌, ap, subst, arith, length-append}
use Rattle.std.specs.List.{AllByRecursion}
use Rattle.std.proofs.lemmas.List.{map-append}
use Rattle.log_base.specs.declared.limits.TheConstants.{PATCH_LIMIT}
use Rattle.chain_core.specs.declared.chain.Patch.{Patch}
use Rattle.log_base.specs.declared.limits.LogLimits.{LogLimits}
use Rattle.log_base.specs.declared.phase.Phase.TheVariants.{Settling, Body, Gate}
use Rattle.chain_core.specs.declared.fate.Fate.{Fate}
use Rattle.chain_core.specs.declared.fate.Fate.TheVariants.{Done, Fails, Stops}
use Rattle.chain_core.specs.declared.answer.Decision.{Decision}
use Rattle.chain_core.specs.declared.answer.Decision.TheVariants.{Accept, Known, Conflict, Full}
use Rattle.delta_base.specs.declared.id.Id.{Id}
use Rattle.chain_core.specs.Ids.{last_of, version_among}
use Rattle.chain_core.specs.Links.{IsChain}
use Rattle.chain_core.specs.Patches.{links_of, version_of, last_id}
use Rattle.chain_core.specs.Runs.{IsRun, patches_in, run_text}
use Rattle.chain_core.specs.Decision.{run_decision}
use Rattle.chain_core.specs.Log.{LogPoint, up, down, IsLog, IsPoint, stopped, opened_again}
use Rattle.chain_core.specs.Stay.{accepted_by, decided_by, run_stay}
use Rattle.chain_core.proofs.Chained.{chain-push}
use Rattle.chain_core.proofs.Decided.{accepted}
use Rattle.chain_core.proofs.Runs.{patches_in-push, run_goes_on, short_run}
use Rattle.chain_core.proofs.Versions.{link_to, same_ids}

pub short-push : (patches : List Patch) (patch : Patch) → AllByRecursion (λ (p : Patch). length p.text ≤ PATCH_LIMIT) patches → length patch.text ≤ PATCH_LIMIT → AllByRecursion (λ (p : Patch). length p.text ≤ PATCH_LIMIT) (patches ++ patch ∷ [])
short-push [] patch short more = (more, tt)
short-push (first ∷ patches) patch short more = (short.0, short-push patches patch short.1 more)

short-append : (patches more : List Patch) → AllByRecursion (λ (p : Patch). length p.text ≤ PATCH_LIMIT) patches → AllByRecursion (λ (p : Patch). length p.text ≤ PATCH_LIMIT) more → AllByRecursion (λ (p : Patch). length p.text ≤ PATCH_LIMIT) (patches ++ more)
short-append [] more short longer = longer
short-append (first ∷ patches) more short longer = (short.0, short-append patches more short.1 longer)

-- a patch that names the last one and whose id is new goes on the chain
pub links-push : (patches : List Patch) (patch : Patch) → IsChain (links_of patches) → patch.prev ≡ last_id patches → version_of patches patch.id ≡ None → IsChain (links_of (patches ++ patch ∷ []))
links-push patches patch chain follows new =
    subst IsChain (sym (map-append link_to patches (patch ∷ []))) (chain-push (links_of patches) (link_to patch) chain (follows ∙ ap last_of (sym (same_ids patches))) (ap (λ (ids : List Id). version_among ids patch.id) (same_ids patches) ∙ new))

-- what is accepted goes on the log
pub goes_on : (limits : LogLimits) (patches run : List Patch) (version : ℕ) → IsLog limits patches → IsRun run → length (run_text run) ≤ PATCH_LIMIT → run_decision patches run limits ≡ Accept version → IsLog limits (patches ++ run)
goes_on limits patches run version log linked short is =
    let could = (accepted patches run limits version is).0 in
    record {
      chain = run_goes_on patches run log.chain linked could.follows could.new;
      few = omega (arith, could.places, length-append patches run);
      room = could.room;
      short = short-append patches run log.short (short_run run short);
    }

module _ (limits : LogLimits) (runs : List (List Patch)) (doubt : Option (List Patch)) (run : List Patch) (is : IsPoint limits (up runs doubt)) where
  opened_or_not : (opened : Bool) (longer : List (List Patch)) → IsLog limits (patches_in longer) → IsPoint limits (down (cond opened longer runs))
  opened_or_not true longer log = log
  opened_or_not false longer log = is.0

  accepted_points : (version : ℕ) (fate : Fate) → IsLog limits (patches_in (runs ++ run ∷ [])) → IsPoint limits (accepted_by version fate runs doubt run).0
  accepted_points version Done more = (more, more)
  accepted_points version (Fails Settling) more = settling doubt is
    where
      settling : (d : Option (List Patch)) → IsPoint limits (up runs d) → IsPoint limits (accepted_by version (Fails Settling) runs d run).0
      settling None point = (more, more)
      settling (Some doubtful) point = point
  accepted_points version (Fails Body) more = (is.0, is.0)
  accepted_points version (Fails Gate) more = (is.0, more)
  accepted_points version (Stops Settling opened) more = settling doubt is
    where
      settling : (d : Option (List Patch)) → IsPoint limits (up runs d) → IsPoint limits (accepted_by version (Stops Settling opened) runs d run).0
      settling None point = (more, more)
      settling (Some doubtful) point = opened_or_not opened (runs ++ doubtful ∷ []) point.1
  accepted_points version (Stops Body opened) more = is.0
  accepted_points version (Stops Gate opened) more = opened_or_not opened (runs ++ run ∷ []) more

  decided_points : (fate : Fate) (made : Decision) → run_decision (patches_in runs) run limits ≡ made → IsRun run → length (run_text run) ≤ PATCH_LIMIT → IsPoint limits (decided_by made fate runs doubt run).0
  decided_points fate (Accept version) same linked short =
      accepted_points version fate (subst (IsLog limits) (sym (patches_in-push runs run)) (goes_on limits (patches_in runs) run version is.0 linked short same))
  decided_points fate (Known version known) same linked short = is
  decided_points fate (Conflict version head named) same linked short = is
  decided_points fate (Full what have limit) same linked short = is

pub stays : (limits : LogLimits) (point : LogPoint (List Patch)) (run : List Patch) (fate : Fate) → IsPoint limits point → IsRun run → length (run_text run) ≤ PATCH_LIMIT → IsPoint limits (run_stay limits point run fate).0
stays limits (up runs doubt) run fate is linked short = decided_points limits runs doubt run is fate (run_decision (patches_in runs) run limits) refl linked short
stays limits (down runs) run fate is linked short = is

pub stops : (limits : LogLimits) (point : LogPoint (List Patch)) (opened : Bool) → IsPoint limits point → IsPoint limits (stopped point opened)
stops limits (up runs doubt) true is = is.1
stops limits (up runs doubt) false is = is.0
stops limits (down runs) opened is = is

pub opens : (limits : LogLimits) (point : LogPoint (List Patch)) → IsPoint limits point → IsPoint limits (opened_again point)
opens limits (up runs doubt) is = is
opens limits (down runs) is = (is, is)
