-- What a chain makes of one more run of patches.
use Rattle.std.specs.Prelude.{ℕ, ◌+◌, ◌==◌, ◌&&◌, nat_lt, Bool, true, false, not, List, []}
use Rattle.std.specs.Prelude.{◌∷◌, ◌++◌, length, Option, Some, None, if◌then◌else◌}
use Rattle.std.specs.Option.{option_eq}
use Rattle.std.specs.Str.{bytes_eq}
use Rattle.delta_base.specs.declared.id.Id.{Id}
use Rattle.log_base.specs.declared.limits.FullKind.TheVariants.{Patches, Bytes}
use Rattle.log_base.specs.declared.limits.LogLimits.{LogLimits}
use Rattle.chain_core.specs.declared.chain.Patch.{Patch}
use Rattle.chain_core.specs.declared.answer.Decision.{Decision}
use Rattle.chain_core.specs.declared.answer.Decision.TheVariants.{Accept, Known, Conflict, Full}
use Rattle.chain_core.specs.Patches.{version_of, patch_at, last_id, journal_length}
use Rattle.chain_core.specs.Runs.{prev_of_run}

abbrev pub same_id : Option Id → Option Id → Bool
same_id one other = option_eq (λ a b. a.0 == b.0) one other

abbrev pub has_text : Option Patch → List ℕ → Bool
has_text None text = false
has_text (Some patch) text = bytes_eq patch.text text

-- the version that a patch names as the one before it: 0 where it names none
abbrev pub version_named : List Patch → Option Id → Option ℕ
version_named patches None = Some 0
version_named patches (Some id) = version_of patches id

abbrev pub first_found : Option ℕ → Option ℕ → Option ℕ
first_found (Some version) later = Some version
first_found None later = later

-- the version of the first patch of a run whose id the chain has
abbrev pub version_known : List Patch → List Patch → Option ℕ
version_known patches [] = None
version_known patches (patch ∷ run) =
    first_found (version_of patches patch.id) (version_known patches run)

-- the patches from this version on have the texts of the run's
abbrev pub stands_at : List Patch → ℕ → List Patch → Bool
stands_at patches version [] = true
stands_at patches version (patch ∷ run) =
    stands_at patches (version + 1) run && has_text (patch_at patches version) patch.text

-- of a run whose ids are new: the first case that holds decides
abbrev pub decision_on_new : List Patch → List Patch → LogLimits → Decision
decision_on_new patches run limits =
    let longer = journal_length (patches ++ run) in
    let prev = prev_of_run run in
    if not (same_id prev (last_id patches))
    then Conflict (length patches) (last_id patches) (version_named patches prev)
    else (if nat_lt limits.patches (length patches + length run)
    then Full Patches (length patches) limits.patches
    else (if nat_lt limits.bytes longer then Full Bytes longer limits.bytes
    else Accept (length patches + length run)))

-- of a run one of whose ids is that of this version, if the chain has one
abbrev pub decision_on : Option ℕ → List Patch → List Patch → LogLimits → Decision
decision_on None patches run limits = decision_on_new patches run limits
decision_on (Some version) patches run limits = Known version (stands_at patches version run)

unfoldable pub run_decision : List Patch → List Patch → LogLimits → Decision
run_decision patches run limits = decision_on (version_known patches run) patches run limits

-- of one patch
abbrev pub decision : List Patch → Patch → LogLimits → Decision
decision patches patch limits = run_decision patches (patch ∷ []) limits
