-- What follows from a decision, and what leads to it.
use Rattle.std.proofs.Common.{◌≡◌, ℕ, ◌+◌, ◌≤◌, Bool, true, false, cond, not, eqb, ltb, List, [], ◌∷◌, ◌++◌, length, Option, Some, None, refl, sym, ◌∙◌, ap, arith}
use Rattle.std.proofs.lemmas.Bool.{eq-eqb, eqb-true, ltb-false}
use Rattle.std.proofs.lemmas.Bool.Decides.{nat_tests}
use Rattle.delta_base.specs.declared.id.Id.{Id}
use Rattle.log_base.specs.declared.limits.FullKind.TheVariants.{Patches, Bytes}
use Rattle.log_base.specs.declared.limits.LogLimits.{LogLimits}
use Rattle.chain_core.specs.declared.chain.Patch.{Patch}
use Rattle.chain_core.specs.declared.answer.Decision.{Decision}
use Rattle.chain_core.specs.declared.answer.Decision.TheVariants.{Accept, Known, Conflict, Full}
use Rattle.std.specs.Option.{option_map}
use Rattle.chain_core.specs.Ids.{version_among}
use Rattle.chain_core.specs.Patches.{patch_ids, version_of, last_id, journal_length}
use Rattle.chain_core.specs.Runs.{prev_of_run}
use Rattle.chain_core.specs.Decision.{run_decision, decision_on, decision_on_new, same_id, stands_at, first_found, version_known, version_named}

pub same_id-true : (a b : Option Id) → same_id a b ≡ true → a ≡ b
same_id-true None None same = refl
same_id-true None (Some b) same = absurd (cc)
same_id-true (Some a) None same = absurd (cc)
same_id-true (Some a) (Some b) same = ap (λ (n : ℕ). Some (record { 0 = n })) (eqb-true a.0 b.0 same)

pub same_id-refl : (a : Option Id) → same_id a a ≡ true
same_id-refl None = refl
same_id-refl (Some a) = eq-eqb a.0 a.0 refl

true_not_false : true ≡ false → ⊥
true_not_false same = cc

not_true : (test : Bool) → not test ≡ true → test ≡ false
not_true true is = absurd (cc)
not_true false is = refl

not_false : (test : Bool) → not test ≡ false → test ≡ true
not_false true is = refl
not_false false is = absurd (cc)

-- what the test for other ids tells
pub ids_same : (a b : Option Id) → not (same_id a b) ≡ false → a ≡ b
ids_same a b is = same_id-true a b (not_false (same_id a b) is)

pub ids_differ : (a b : Option Id) → not (same_id a b) ≡ true → a ≡ b → ⊥
ids_differ a b is same = true_not_false (sym (same_id-refl b) ∙ ap (λ (id : Option Id). same_id id b) (sym same) ∙ not_true (same_id a b) is)

-- versions are counted from 1
version_from_one : (ids : List Id) (id : Id) (version : ℕ) → version_among ids id ≡ Some version → 1 ≤ version
version_from_one [] id version is = absurd (cc)
version_from_one (first ∷ ids) id version is = by (eqb first.0 id.0) (version_among ids id) is
  where
    later : (found : Option ℕ) → option_map (λ before. before + 1) found ≡ Some version → 1 ≤ version
    later None e = absurd (cc)
    later (Some before) e = let same : before + 1 ≡ version = cc in omega (arith, same)

    by : (here : Bool) (found : Option ℕ) → cond here (Some 1) (option_map (λ before. before + 1) found) ≡ Some version → 1 ≤ version
    by true found e = let same : ◌≡◌ {A = ℕ} 1 version = cc in omega (arith, same)
    by false found e = later found e

one_or_later : (found later : Option ℕ) (version : ℕ) → (found ≡ Some version → 1 ≤ version) → (later ≡ Some version → 1 ≤ version) → first_found found later ≡ Some version → 1 ≤ version
one_or_later None later version here behind is = behind is
one_or_later (Some first) later version here behind is = here is

pub known_from_one : (patches run : List Patch) (version : ℕ) → version_known patches run ≡ Some version → 1 ≤ version
known_from_one patches [] version is = absurd (cc)
known_from_one patches (patch ∷ run) version is =
    one_or_later (version_of patches patch.id) (version_known patches run) version (version_from_one (patch_ids patches) patch.id version) (known_from_one patches run version) is

-- nothing stands against the run
pub record IsAcceptable (patches run : List Patch) (limits : LogLimits) : Type 0 where
  pub new : version_known patches run ≡ None
  pub follows : prev_of_run run ≡ last_id patches
  pub places : length patches + length run ≤ limits.patches
  pub room : journal_length (patches ++ run) ≤ limits.bytes

module _ (patches run : List Patch) (limits : LogLimits) where
  pub decision-known : (version : ℕ) → version_known patches run ≡ Some version → run_decision patches run limits ≡ Known version (stands_at patches version run)
  unfolding run_decision
  decision-known version is = ap (λ found. decision_on found patches run limits) is

  pub decision-new : version_known patches run ≡ None → run_decision patches run limits ≡ decision_on_new patches run limits
  unfolding run_decision
  decision-new is = ap (λ found. decision_on found patches run limits) is

  abbrev longer : ℕ
  longer = journal_length (patches ++ run)

  -- the tests, as they stand in the definition
  abbrev by_tests : Bool → Bool → Bool → Decision
  by_tests follows full long = cond (not follows) (Conflict (length patches) (last_id patches) (version_named patches (prev_of_run run))) (cond full (Full Patches (length patches) limits.patches) (cond long (Full Bytes longer limits.bytes) (Accept (length patches + length run))))

  tested : decision_on_new patches run limits ≡ by_tests (same_id (prev_of_run run) (last_id patches)) (ltb limits.patches (length patches + length run)) (ltb limits.bytes longer)
  tested = refl

  pub new-conflict : not (same_id (prev_of_run run) (last_id patches)) ≡ true → decision_on_new patches run limits ≡ Conflict (length patches) (last_id patches) (version_named patches (prev_of_run run))
  new-conflict other = ap (λ test. by_tests test (ltb limits.patches (length patches + length run)) (ltb limits.bytes longer)) (not_true (same_id (prev_of_run run) (last_id patches)) other)

  pub new-follows : (full : Bool) → not (same_id (prev_of_run run) (last_id patches)) ≡ false → ltb limits.patches (length patches + length run) ≡ full → decision_on_new patches run limits ≡ by_tests true full (ltb limits.bytes longer)
  new-follows full follows is = ap (λ test. by_tests test (ltb limits.patches (length patches + length run)) (ltb limits.bytes longer)) (not_false (same_id (prev_of_run run) (last_id patches)) follows) ∙ ap (λ test. by_tests true test (ltb limits.bytes longer)) is

  pub new-rest : (long : Bool) → not (same_id (prev_of_run run) (last_id patches)) ≡ false → ltb limits.patches (length patches + length run) ≡ false → ltb limits.bytes longer ≡ long
      → decision_on_new patches run limits ≡ cond long (Full Bytes longer limits.bytes) (Accept (length patches + length run))
  new-rest long follows few is = new-follows false follows few ∙ ap (λ test. by_tests true false test) is

  accepted_by_tests : (follows full long : Bool) (version : ℕ) → by_tests follows full long ≡ Accept version → (follows ≡ true) × (full ≡ false) × (long ≡ false) × (version ≡ length patches + length run)
  accepted_by_tests false full long version is = absurd (cc)
  accepted_by_tests true true long version is = absurd (cc)
  accepted_by_tests true false true version is = absurd (cc)
  accepted_by_tests true false false version is = (refl, refl, refl, cc)

  accepted_if : (found : Option ℕ) (version : ℕ) → decision_on found patches run limits ≡ Accept version → (found ≡ None) × (decision_on_new patches run limits ≡ Accept version)
  accepted_if None version is = (refl, is)
  accepted_if (Some known) version is = absurd (cc)

  -- what is accepted could be
  pub accepted : (version : ℕ) → run_decision patches run limits ≡ Accept version → IsAcceptable patches run limits × (version ≡ length patches + length run)
  unfolding run_decision
  accepted version is =
      let new = accepted_if (version_known patches run) version is in
      let tests = accepted_by_tests (same_id (prev_of_run run) (last_id patches)) (ltb limits.patches (length patches + length run)) (ltb limits.bytes longer) version new.1 in (
        record {
          new = new.0;
          follows = same_id-true (prev_of_run run) (last_id patches) tests.0;
          places = ltb-false limits.patches (length patches + length run) tests.1;
          room = ltb-false limits.bytes longer tests.2;
        },
        tests.3,
      )

-- where nothing stands against a run it is accepted
pub accepts : (patches run : List Patch) (limits : LogLimits) → IsAcceptable patches run limits → run_decision patches run limits ≡ Accept (length patches + length run)
accepts patches run limits can =
    let follows : not (same_id (prev_of_run run) (last_id patches)) ≡ false = ap (λ (id : Option Id). not (same_id (prev_of_run run) id)) (sym can.follows) ∙ ap not (same_id-refl (prev_of_run run)) in
    let places = can.places in
    let room = can.room in
    let few : ltb limits.patches (length patches + length run) ≡ false = grind (arith, nat_tests) in
    let short : ltb limits.bytes (journal_length (patches ++ run)) ≡ false = grind (arith, nat_tests) in
    decision-new patches run limits can.new ∙ new-rest patches run limits false follows few short
