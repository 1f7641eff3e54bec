-- What stands against a call, test by test.
use Rattle.std.proofs.Common.{◌≡◌, ◌≢◌, ◌⊎◌, inl, inr, ℕ, ◌+◌, ◌<◌, ◌≤◌, Bool, true, false, cond, eqb, ltb, List, [], ◌∷◌, Option, Some, None, refl, sym, ◌∙◌, ap, subst, arith}
use Rattle.std.proofs.lemmas.Bool.Decides.{nat_tests}
use Rattle.delta_base.specs.declared.id.Id.{Id}
use Rattle.log_base.specs.declared.limits.FullKind.TheVariants.{Bytes, Slots}
use Rattle.log_base.specs.declared.source_info.SourceInfo.{SourceInfo}
use Rattle.registry_core.specs.declared.event.Event.TheVariants.{Created, Renamed, Removed}
use Rattle.registry_core.specs.declared.answer.CreateAnswer.{CreateAnswer}
use Rattle.registry_core.specs.declared.answer.CreateAnswer.TheVariants.{Made, BadName, BadUri, NameTaken, IdTaken, Full}
use Rattle.registry_core.specs.declared.answer.ChangeAnswer.{ChangeAnswer}
use Rattle.registry_core.specs.declared.answer.ChangeAnswer.TheVariants.{Done, NoSuchName, BadName as IsBadName, NameTaken as IsNameTaken, Full as IsFull}
use Rattle.registry_core.specs.Answers.{told, end_of_create, end_of_change}
use Rattle.registry_core.specs.Checks.{IsRefusedCreate, IsRefusedChange}
use Rattle.registry_core.specs.Names.{name_fault, uri_fault}
use Rattle.registry_core.specs.Sources.{named, source_named, source_with_id}
use Rattle.registry_core.specs.Texts.{length_with}
use Rattle.registry_core.specs.Replies.{created, renamed_to, removal_answer, of_found, too_long, no_slot, removal}
use Rattle.log_base.specs.declared.limits.TheConstants.{REGISTRY_LIMIT}
use Rattle.registry_core.proofs.Tables.{chosen, chosen_change, chosen_removal}

pub refused : (reply answer : CreateAnswer) → reply ≡ answer → end_of_create answer ≡ told → IsRefusedCreate reply answer
refused reply answer is ends = inl (sym is, ap end_of_create is ∙ ends)

pub refused_taken : (reply answer : CreateAnswer) (name : List ℕ) → reply ≡ IdTaken name → IsRefusedCreate (IdTaken name) answer → IsRefusedCreate reply answer
refused_taken reply answer name is answered = subst (λ (r : CreateAnswer). IsRefusedCreate r answer) (sym is) answered

pub refusal : (reply answer : ChangeAnswer) → reply ≡ answer → end_of_change removal answer ≡ told → IsRefusedChange reply answer
refusal reply answer is ends = (sym is, ap (end_of_change removal) is ∙ ends)

is_long : (longer : ℕ) → REGISTRY_LIMIT < longer → too_long longer ≡ Some longer
is_long longer above = let test : ltb REGISTRY_LIMIT longer ≡ true = grind (arith, nat_tests) in ap (λ (b : Bool). cond b (Some longer) None) test

is_short : (longer : ℕ) → longer ≤ REGISTRY_LIMIT → too_long longer ≡ None
is_short longer within = let test : ltb REGISTRY_LIMIT longer ≡ false = grind (arith, nat_tests) in ap (λ (b : Bool). cond b (Some longer) None) test

is_used : (slots used : ℕ) → used ≡ slots → no_slot slots used ≡ Some used
is_used slots used is = let test : eqb used slots ≡ true = grind (arith, nat_tests) in ap (λ (b : Bool). cond b (Some used) None) test

is_free : (slots used : ℕ) → used ≢ slots → no_slot slots used ≡ None
is_free slots used is = let test : eqb used slots ≡ false = grind (arith, nat_tests) in ap (λ (b : Bool). cond b (Some used) None) test

-- a creation, test by test
module _ (living : List SourceInfo) (slots used bytes : ℕ) (source : SourceInfo) where
  abbrev reply : CreateAnswer
  reply = created living slots used bytes source

  pub bad_name : (at : ℕ) → name_fault source.name ≡ Some at → reply ≡ BadName at
  bad_name at is = λ i. chosen slots source (is i) (uri_fault source.uri) (source_named source.name living) (source_with_id source.id living) (no_slot slots used) (too_long (length_with bytes (Created source)))

  module _ (name : name_fault source.name ≡ None) where
    pub bad_uri : (at : ℕ) → uri_fault source.uri ≡ Some at → reply ≡ BadUri at
    bad_uri at is = λ i. chosen slots source (name i) (is i) (source_named source.name living) (source_with_id source.id living) (no_slot slots used) (too_long (length_with bytes (Created source)))

    module _ (uri : uri_fault source.uri ≡ None) where
      pub name_taken : (other : SourceInfo) → source_named source.name living ≡ Some other → reply ≡ NameTaken other.id
      name_taken other is = λ i. chosen slots source (name i) (uri i) (is i) (source_with_id source.id living) (no_slot slots used) (too_long (length_with bytes (Created source)))

      module _ (free : source_named source.name living ≡ None) where
        pub id_taken : (other : SourceInfo) → source_with_id source.id living ≡ Some other → reply ≡ IdTaken other.name
        id_taken other is = λ i. chosen slots source (name i) (uri i) (free i) (is i) (no_slot slots used) (too_long (length_with bytes (Created source)))

        module _ (fresh : source_with_id source.id living ≡ None) where
          pub no_slot_left : used ≡ slots → reply ≡ Full Slots used slots
          no_slot_left is = λ i. chosen slots source (name i) (uri i) (free i) (fresh i) (is_used slots used is i) (too_long (length_with bytes (Created source)))

          pub no_room : used ≢ slots → REGISTRY_LIMIT < length_with bytes (Created source) → reply ≡ Full Bytes (length_with bytes (Created source)) REGISTRY_LIMIT
          no_room has above = λ i. chosen slots source (name i) (uri i) (free i) (fresh i) (is_free slots used has i) (is_long (length_with bytes (Created source)) above i)

          pub can_make : used ≢ slots → length_with bytes (Created source) ≤ REGISTRY_LIMIT → reply ≡ Made source
          can_make has within = λ i. chosen slots source (name i) (uri i) (free i) (fresh i) (is_free slots used has i) (is_short (length_with bytes (Created source)) within i)

-- a renaming, test by test
module _ (living : List SourceInfo) (bytes : ℕ) (name new_name : List ℕ) where
  abbrev change : ChangeAnswer
  change = of_found (renamed_to living bytes new_name) (source_named name living)

  pub no_such : source_named name living ≡ None → change ≡ NoSuchName
  no_such none = ap (of_found (renamed_to living bytes new_name)) none

  module _ (source : SourceInfo) (found : source_named name living ≡ Some source) where
    abbrev longer : ℕ
    longer = length_with bytes (Renamed source.slot new_name)

    of_source : change ≡ chosen_change (named new_name source) (name_fault new_name) (source_named new_name living) (too_long longer)
    of_source = ap (of_found (renamed_to living bytes new_name)) found

    pub new_bad_name : (at : ℕ) → name_fault new_name ≡ Some at → change ≡ IsBadName at
    new_bad_name at is = of_source ∙ (λ i. chosen_change (named new_name source) (is i) (source_named new_name living) (too_long longer))

    module _ (is_name : name_fault new_name ≡ None) where
      pub new_taken : (other : SourceInfo) → source_named new_name living ≡ Some other → change ≡ IsNameTaken other.id
      new_taken other is = of_source ∙ (λ i. chosen_change (named new_name source) (is_name i) (is i) (too_long longer))

      module _ (free : source_named new_name living ≡ None) where
        pub rename_no_room : REGISTRY_LIMIT < longer → change ≡ IsFull Bytes longer REGISTRY_LIMIT
        rename_no_room above = of_source ∙ (λ i. chosen_change (named new_name source) (is_name i) (free i) (is_long longer above i))

        pub can_rename : longer ≤ REGISTRY_LIMIT → change ≡ Done (named new_name source)
        can_rename within = of_source ∙ (λ i. chosen_change (named new_name source) (is_name i) (free i) (is_short longer within i))

-- a removal, test by test
module _ (living : List SourceInfo) (bytes : ℕ) (name : List ℕ) where
  abbrev gone : ChangeAnswer
  gone = of_found (removal_answer bytes) (source_named name living)

  pub none_to_go : source_named name living ≡ None → gone ≡ NoSuchName
  none_to_go none = ap (of_found (removal_answer bytes)) none

  pub remove_no_room : (source : SourceInfo) → source_named name living ≡ Some source → REGISTRY_LIMIT < length_with bytes (Removed source.slot) → gone ≡ IsFull Bytes (length_with bytes (Removed source.slot)) REGISTRY_LIMIT
  remove_no_room source found above = ap (of_found (removal_answer bytes)) found ∙ (λ i. chosen_removal source (is_long (length_with bytes (Removed source.slot)) above i))

  pub can_remove : (source : SourceInfo) → source_named name living ≡ Some source → length_with bytes (Removed source.slot) ≤ REGISTRY_LIMIT → gone ≡ Done source
  can_remove source found within = ap (of_found (removal_answer bytes)) found ∙ (λ i. chosen_removal source (is_short (length_with bytes (Removed source.slot)) within i))
