-- What is in doubt tells as much of a fate as its text.
use Rattle.std.proofs.Common.{◌≡◌, ℕ, zero, suc, Bool, List, Option, Some, None, refl, sym, ◌∙◌, ap}
use Rattle.std.specs.Prelude.{is_none}
use Rattle.std.specs.Option.{option_map}
use Rattle.log_base.specs.Phases.{phase_by_syncs}
use Rattle.log_base.specs.declared.phase.Phase.{Phase}
use Rattle.log_base.specs.declared.phase.Phase.TheVariants.{Settling, Body, Gate}
use Rattle.chain_core.specs.declared.fate.Fate.{Fate}
use Rattle.chain_core.specs.declared.fate.Fate.TheVariants.{Done, Fails, Stops}
use Rattle.chain_core.specs.Stay.{fate_of, fate_by_plan}
use Rattle.world_core.specs.Parts.{fails_in, run_as}

module _ {A B : Type 0} (f : A → B) where
  same_phase : (doubt : Option A) (syncs : ℕ) → phase_by_syncs (option_map f doubt) syncs ≡ phase_by_syncs doubt syncs
  same_phase None zero = refl
  same_phase None (suc zero) = refl
  same_phase None (suc (suc more)) = refl
  same_phase (Some one) zero = refl
  same_phase (Some one) (suc zero) = refl
  same_phase (Some one) (suc (suc zero)) = refl
  same_phase (Some one) (suc (suc (suc more))) = refl

  pub same_plan : (doubt : Option A) (plan : Option ℕ) → fate_by_plan (option_map f doubt) plan ≡ fate_by_plan doubt plan
  same_plan doubt None = refl
  same_plan doubt (Some behind) = ap fate_of (same_phase doubt behind)

  same_failure : (phase : Phase) (doubt : Option A) → fails_in phase (option_map f doubt) ≡ fails_in phase doubt
  same_failure Settling None = refl
  same_failure Settling (Some one) = refl
  same_failure Body doubt = refl
  same_failure Gate doubt = refl

  same_run : (doubt : Option A) (fate : Fate) → run_as (option_map f doubt) fate ≡ run_as doubt fate
  same_run doubt Done = refl
  same_run doubt (Fails phase) = same_failure phase doubt
  same_run doubt (Stops phase opened) = same_failure phase doubt

  same_none : (doubt : Option A) → is_none (option_map f doubt) ≡ is_none doubt
  same_none None = refl
  same_none (Some one) = refl

-- a plan comes to the fate, whatever is in doubt
pub planned_as : {T : Type 0} (text_of : T → List ℕ) (settled : Bool) (plan : Option ℕ) (fate : Fate) → ((doubt : Option (List ℕ)) → settled ≡ is_none doubt → fate_by_plan doubt plan ≡ run_as doubt fate)
    → (doubt : Option T) → settled ≡ is_none doubt → fate_by_plan doubt plan ≡ run_as doubt fate
planned_as text_of settled plan fate comes doubt is =
    sym (same_plan text_of doubt plan) ∙ comes (option_map text_of doubt) (is ∙ sym (same_none text_of doubt)) ∙ same_run text_of doubt fate
