-- What follows from what a zone decides, and what leads to it.
use Rattle.std.proofs.Common.{◌≡◌, ℕ, ◌+◌, ◌≤◌, Bool, true, false, cond, not, ltb, List, length, Option, Some, None, refl, sym, ◌∙◌, ap, arith, subst}
use Rattle.std.proofs.lemmas.Bool.{ltb-false}
use Rattle.std.proofs.lemmas.Bool.Decides.{nat_tests}
use Rattle.delta_base.specs.declared.id.Id.{Id}
use Rattle.log_base.specs.declared.limits.FullKind.TheVariants.{Patches, Bytes}
use Rattle.log_base.specs.declared.limits.LogLimits.{LogLimits}
use Rattle.log_base.specs.declared.limits.TheConstants.{PAYLOAD_FRAME}
use Rattle.chain_core.specs.declared.chain.Patch.{Patch}
use Rattle.chain_core.specs.Decision.{same_id}
use Rattle.chain_core.proofs.Decided.{same_id-true}
use Rattle.patch_meaning.specs.Checked.{CheckedPatch}
use Rattle.zone_state.specs.declared.answer.TakeAnswer.{TakeAnswer}
use Rattle.zone_state.specs.declared.answer.TakeAnswer.TheVariants.{Applied, Diverged, Repeated, Full}
use Rattle.zone_state.specs.declared.answer.TakeAnswer.TheVariants as answers
use Rattle.chain_core.specs.declared.fate.Fate.{Fate}
use Rattle.chain_core.specs.Log.{up}
use Rattle.chain_core.specs.Ids.{last_of, version_among}
use Rattle.zone_state.specs.Brief.{file_length}
use Rattle.zone_state.specs.Taking.{taking, unless_repeated, within_limits, taken_by, taken_then}

-- nothing stands against the patch
pub record CanBeTaken (ids : List Id) (bytes : ℕ) (patch : Patch) (limits : LogLimits) : Type 0 where
  pub follows : patch.prev ≡ last_of ids
  pub new : version_among ids patch.id ≡ None
  pub places : length ids + 1 ≤ limits.patches
  pub room : file_length ids bytes + (PAYLOAD_FRAME + length patch.text) ≤ limits.bytes

module _ (ids : List Id) (bytes : ℕ) (patch : Patch) (limits : LogLimits) where
  abbrev longer : ℕ
  longer = file_length ids bytes + (PAYLOAD_FRAME + length patch.text)

  -- the tests, as they stand in the definition
  abbrev by_tests : Bool → Option ℕ → TakeAnswer
  by_tests follows found = cond (not follows) (Diverged (last_of ids) patch.prev) (unless_repeated found ids bytes patch limits)

  abbrev by_limits : Bool → Bool → TakeAnswer
  by_limits full long = cond full (Full Patches (length ids) limits.patches) (cond long (Full Bytes longer limits.bytes) (Applied (length ids + 1)))

  tested : taking ids bytes patch limits ≡ by_tests (same_id patch.prev (last_of ids)) (version_among ids patch.id)
  unfolding taking
  tested = refl

  pub taking-diverged : same_id patch.prev (last_of ids) ≡ false → taking ids bytes patch limits ≡ Diverged (last_of ids) patch.prev
  taking-diverged other = tested ∙ ap (λ test. by_tests test (version_among ids patch.id)) other

  follows_so : same_id patch.prev (last_of ids) ≡ true → taking ids bytes patch limits ≡ unless_repeated (version_among ids patch.id) ids bytes patch limits
  follows_so follows = tested ∙ ap (λ test. by_tests test (version_among ids patch.id)) follows

  pub taking-repeated : (version : ℕ) → same_id patch.prev (last_of ids) ≡ true → version_among ids patch.id ≡ Some version → taking ids bytes patch limits ≡ Repeated version
  taking-repeated version follows is = follows_so follows ∙ ap (λ found. unless_repeated found ids bytes patch limits) is

  pub taking-new : same_id patch.prev (last_of ids) ≡ true → version_among ids patch.id ≡ None → taking ids bytes patch limits ≡ within_limits ids bytes patch limits
  taking-new follows new = follows_so follows ∙ ap (λ found. unless_repeated found ids bytes patch limits) new

  pub taking-rest : (long : Bool) → length ids + 1 ≤ limits.patches → ltb limits.bytes longer ≡ long → within_limits ids bytes patch limits ≡ cond long (Full Bytes longer limits.bytes) (Applied (length ids + 1))
  taking-rest long places is =
      let free : ltb limits.patches (length ids + 1) ≡ false = grind (arith, nat_tests) in
      ap (λ test. by_limits test (ltb limits.bytes longer)) free ∙ ap (λ test. by_limits false test) is

  applied_by_limits : (full long : Bool) (version : ℕ) → by_limits full long ≡ Applied version → (full ≡ false) × (long ≡ false) × (version ≡ length ids + 1)
  applied_by_limits true long version is = absurd (cc)
  applied_by_limits false true version is = absurd (cc)
  applied_by_limits false false version is = (refl, refl, cc)

  applied_by_tests : (follows : Bool) (found : Option ℕ) (version : ℕ) → by_tests follows found ≡ Applied version → (follows ≡ true) × (found ≡ None) × (within_limits ids bytes patch limits ≡ Applied version)
  applied_by_tests false found version is = absurd (cc)
  applied_by_tests true (Some known) version is = absurd (cc)
  applied_by_tests true None version is = (refl, refl, is)

  -- what is taken could be
  pub can_be_taken : (version : ℕ) → taking ids bytes patch limits ≡ Applied version → CanBeTaken ids bytes patch limits × (version ≡ length ids + 1)
  can_be_taken version is =
      let tests = applied_by_tests (same_id patch.prev (last_of ids)) (version_among ids patch.id) version (sym tested ∙ is) in
      let sizes = applied_by_limits (ltb limits.patches (length ids + 1)) (ltb limits.bytes longer) version tests.2 in (
        record {
          follows = same_id-true patch.prev (last_of ids) tests.0;
          new = tests.1;
          places = ltb-false limits.patches (length ids + 1) sizes.0;
          room = ltb-false limits.bytes longer sizes.1;
        },
        sizes.2,
      )

-- a decision tells of no want and of no fault
abbrev pub IsDecided : TakeAnswer → Type 0
IsDecided answers.TermsFull = ⊥
IsDecided answers.OutOfMemory = ⊥
IsDecided answers.DiskFault = ⊥
IsDecided other = Unit {0}

pub decided : (ids : List Id) (bytes : ℕ) (patch : Patch) (limits : LogLimits) → IsDecided (taking ids bytes patch limits)
decided ids bytes patch limits = subst IsDecided (sym (tested ids bytes patch limits)) (by_each (same_id patch.prev (last_of ids)) (version_among ids patch.id))
  where
    by_size : (full long : Bool) → IsDecided (by_limits ids bytes patch limits full long)
    by_size true long = tt
    by_size false true = tt
    by_size false false = tt

    by_each : (follows : Bool) (found : Option ℕ) → IsDecided (by_tests ids bytes patch limits follows found)
    by_each false found = tt
    by_each true (Some version) = tt
    by_each true None = by_size (ltb limits.patches (length ids + 1)) (ltb limits.bytes (longer ids bytes patch limits))

-- what is refused changes nothing, and is told
pub record IsRefused (answer : TakeAnswer) : Type 0 where
  pub no_version : (version : ℕ) → answer ≡ Applied version → ⊥
  pub no_terms : answer ≡ answers.TermsFull → ⊥
  pub no_want : answer ≡ answers.OutOfMemory → ⊥
  pub no_fault : answer ≡ answers.DiskFault → ⊥
  pub same : (taken : List CheckedPatch) (patch : CheckedPatch) → taken_then answer taken patch ≡ taken
  pub outcome : (fate : Fate) (taken : List Patch) (doubt : Option Patch) (patch : Patch) → taken_by answer fate taken doubt patch ≡ (up taken doubt, Some answer)

pub is_refused : (answer : TakeAnswer) → IsDecided answer → ((version : ℕ) → answer ≡ Applied version → ⊥) → IsRefused answer
is_refused (Applied version) is never = absurd (never version refl)
is_refused (Diverged have prev) is never = record { no_version = never; no_terms = λ same. cc; no_want = λ same. cc; no_fault = λ same. cc; same = λ taken patch. refl; outcome = λ fate taken doubt patch. refl }
is_refused (Repeated version) is never = record { no_version = never; no_terms = λ same. cc; no_want = λ same. cc; no_fault = λ same. cc; same = λ taken patch. refl; outcome = λ fate taken doubt patch. refl }
is_refused (Full what have limit) is never = record { no_version = never; no_terms = λ same. cc; no_want = λ same. cc; no_fault = λ same. cc; same = λ taken patch. refl; outcome = λ fate taken doubt patch. refl }
is_refused answers.TermsFull is never = absurd is
is_refused answers.OutOfMemory is never = absurd is
is_refused answers.DiskFault is never = absurd is
