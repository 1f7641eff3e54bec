-- What the sources that live and the counts tell of a call.
use Rattle.std.proofs.Common.{◌≡◌, ◌≢◌, inl, inr, ⊎_elim, ◌⊎◌, ℕ, zero, suc, ◌+◌, ◌^◌, ◌<◌, ◌≤◌, Bool, true, false, cond, eqb, List, [], ◌∷◌, length, get_or, Option, Some, None, Result, Ok, Err, refl, sym, ◌∙◌, ap, subst, arith, eq-eqb}
use Rattle.std.specs.Prelude.{slice_get, IsTrue, IsUtf8}
use Rattle.std.specs.List.{AllByRecursion, find}
use Rattle.std.specs.Str.{bytes_eq}
use Rattle.std.proofs.lemmas.Bool.Decides.{nat_tests}
use Rattle.std.proofs.lemmas.Slice.Eq.{bytes_eq-Decides}
use Rattle.delta_base.specs.declared.id.Id.{Id}
use Rattle.log_base.specs.declared.source_info.SourceInfo.{SourceInfo}
use Rattle.registry_core.specs.declared.event.Event.{Event}
use Rattle.registry_core.specs.declared.event.Event.TheVariants.{Created, Renamed, Removed}
use Rattle.registry_core.specs.declared.answer.CreateAnswer.{CreateAnswer}
use Rattle.registry_core.specs.declared.answer.CreateAnswer.TheVariants.{Made}
use Rattle.registry_core.specs.declared.answer.ChangeAnswer.{ChangeAnswer}
use Rattle.registry_core.specs.declared.answer.ChangeAnswer.TheVariants.{Done}
use Rattle.registry_core.specs.Answers.{told, end_of_change}
use Rattle.registry_core.specs.Checks.{IsRefusedCreate, IsRefusedChange}
use Rattle.registry_core.specs.Sources.{sources, used, named, source_named, source_in}
use Rattle.registry_core.specs.Texts.{registry_length}
use Rattle.registry_core.specs.Replies.{created, renamed_to, removal_answer, of_found, create_reply, rename_reply, remove_reply, next_source, renaming, removal}
use Rattle.registry_core.specs.Events.{IsSlot, IsMade, IsNextEvent}
use Rattle.registry_core.specs.Tables.{SlotsRise, IsTable}
use Rattle.registry_core.proofs.Tables.{are_slots, can_be_made, can_be_named, can_go}

pub within_get : {X : Type 0} (xs : List X) (k : ℕ) (x : X) → slice_get xs k ≡ Some x → k < length xs
within_get [] k x is = absurd (cc)
within_get (y ∷ xs) zero x is = omega arith
within_get (y ∷ xs) (suc k) x is = omega (arith, within_get xs k x is)

pub get_there : {X : Type 0} (xs : List X) (k : ℕ) (x : X) → k < length xs → x ≡ get_or xs k x → slice_get xs k ≡ Some x
get_there [] k x within is = absurd (omega arith)
get_there (y ∷ xs) zero x within is = ap (λ (z : _). Some z) (sym is)
get_there (y ∷ xs) (suc k) x within is = get_there xs k x (omega arith) is

pub slot_at : (living : List SourceInfo) (k : ℕ) (source : SourceInfo) → AllByRecursion (λ (s : SourceInfo). IsSlot s.slot) living → slice_get living k ≡ Some source → IsSlot source.slot
slot_at [] k source all is = absurd (cc)
slot_at (first ∷ living) zero source all is = let same : first ≡ source = cc in subst (λ (s : SourceInfo). IsSlot s.slot) same all.0
slot_at (first ∷ living) (suc k) source all is = slot_at living k source all.1 is

is_equal : (a b : ℕ) → eqb a b ≡ true → a ≡ b
is_equal a b test = grind (arith, nat_tests, test)

pub no_truth : false ≡ true → ⊥
no_truth same = cc

-- the first that passes is here or behind
here_or_behind : (test : Bool) (x s : SourceInfo) (rest : Option SourceInfo) → cond test (Some x) rest ≡ Some s → ((test ≡ true) × (x ≡ s)) ⊎ (rest ≡ Some s)
here_or_behind true x s rest is = inl (refl, cc)
here_or_behind false x s rest is = inr is

found_above : (low high : ℕ) (p : SourceInfo → Bool) (living : List SourceInfo) (s : SourceInfo) → SlotsRise low high living → find p living ≡ Some s → low < s.slot
found_above low high p [] s rise is = absurd (cc)
found_above low high p (x ∷ living) s rise is = ⊎_elim
    (λ (here : (p x ≡ true) × (x ≡ s)). subst (λ (y : SourceInfo). low < y.slot) here.1 rise.0)
    (λ (behind : find p living ≡ Some s). let above = found_above x.slot high p living s rise.1 behind in omega (arith, above, rise.0))
    (here_or_behind (p x) x s (find p living) is)

-- a slot has one source
pub found_in : (low high : ℕ) (p : SourceInfo → Bool) (living : List SourceInfo) (s : SourceInfo) → SlotsRise low high living → find p living ≡ Some s → source_in s.slot living ≡ Some s
found_in low high p [] s rise is = absurd (cc)
found_in low high p (x ∷ living) s rise is = ⊎_elim
    (λ (here : (p x ≡ true) × (x ≡ s)). let test : eqb x.slot s.slot ≡ true = eq-eqb x.slot s.slot (ap (λ (y : SourceInfo). y.slot) here.1) in ap (λ (b : Bool). cond b (Some x) (source_in s.slot living)) test ∙ ap (λ (y : SourceInfo). Some y) here.1)
    (λ (behind : find p living ≡ Some s).
    let above = found_above x.slot high p living s rise.1 behind in
    let test : eqb x.slot s.slot ≡ false = grind (arith, nat_tests, above) in
    ap (λ (b : Bool). cond b (Some x) (source_in s.slot living)) test ∙ found_in x.slot high p living s rise.1 behind)
    (here_or_behind (p x) x s (find p living) is)

found_passes : (p : SourceInfo → Bool) (living : List SourceInfo) (s : SourceInfo) → find p living ≡ Some s → p s ≡ true
found_passes p [] s is = absurd (cc)
found_passes p (x ∷ living) s is = ⊎_elim
    (λ (here : (p x ≡ true) × (x ≡ s)). subst (λ (y : SourceInfo). p y ≡ true) here.1 here.0)
    (λ (behind : find p living ≡ Some s). found_passes p living s behind)
    (here_or_behind (p x) x s (find p living) is)

found_all : (P : SourceInfo → Type 0) (p : SourceInfo → Bool) (living : List SourceInfo) (s : SourceInfo) → AllByRecursion P living → find p living ≡ Some s → P s
found_all P p [] s all is = absurd (cc)
found_all P p (x ∷ living) s all is = ⊎_elim
    (λ (here : (p x ≡ true) × (x ≡ s)). subst P here.1 all.0)
    (λ (behind : find p living ≡ Some s). found_all P p living s all.1 behind)
    (here_or_behind (p x) x s (find p living) is)

pub named_is : (living : List SourceInfo) (name : List ℕ) (s : SourceInfo) → source_named name living ≡ Some s → s.name ≡ name
named_is living name s is = let passes = found_passes (λ (x : SourceInfo). bytes_eq x.name name) living s is in grind (arith, bytes_eq-Decides s.name name, passes)

pub some_is : {X : Type 0} (a b : X) → Some a ≡ Some b → a ≡ b
some_is a b same = cc

done_is : (a b : SourceInfo) → Done a ≡ Done b → a ≡ b
done_is a b same = cc

no_end : (s : SourceInfo) → end_of_change removal (Done s) ≡ told → ⊥
no_end s is = cc

pub not_done : (reply : ChangeAnswer) (s : SourceInfo) → reply ≡ Done s → end_of_change removal reply ≡ told → ⊥
not_done reply s is ends = no_end s (ap (end_of_change removal) (sym is) ∙ ends)

module _ (slots : ℕ) (events : List Event) (living : List SourceInfo) (made bytes : ℕ) (table : IsTable slots events living made bytes) where
  pub slots_fit : AllByRecursion (λ (s : SourceInfo). IsSlot s.slot) living
  slots_fit = are_slots 0 made living table.rise (omega (arith, table.few, table.registry.is_slot.1))

  pub source_is : (name uri : List ℕ) (id : Id) → ◌≡◌ {A = SourceInfo} (record { slot = made + 1; id = id; name = name; uri = uri }) (next_source events name uri id)
  source_is name uri id = ap (λ (n : ℕ). record { slot = n + 1; id = id; name = name; uri = uri }) table.made_is

  pub reply_is : (name uri : List ℕ) (id : Id) → created living slots made bytes (record { slot = made + 1; id = id; name = name; uri = uri }) ≡ create_reply slots events name uri id
  unfolding create_reply
  reply_is name uri id = λ i. created (table.living_is i) slots (table.made_is i) (table.bytes_is i) (record { slot = table.made_is i + 1; id = id; name = name; uri = uri })

  pub rename_is : (name new_name : List ℕ) → of_found (renamed_to living bytes new_name) (source_named name living) ≡ rename_reply slots events name new_name
  unfolding rename_reply
  rename_is name new_name = λ i. of_found (renamed_to (table.living_is i) (table.bytes_is i) new_name) (source_named name (table.living_is i))

  pub remove_is : (name : List ℕ) → of_found (removal_answer bytes) (source_named name living) ≡ remove_reply slots events name
  unfolding remove_reply
  remove_is name = λ i. of_found (removal_answer (table.bytes_is i)) (source_named name (table.living_is i))

  -- a source that a call finds by its name is the one in its slot
  in_slot : (name : List ℕ) (s : SourceInfo) → source_named name (sources events) ≡ Some s → source_in s.slot living ≡ Some s
  in_slot name s found = found_in 0 made (λ (x : SourceInfo). bytes_eq x.name name) living s table.rise (ap (source_named name) table.living_is ∙ found)

  module _ (slot : ℕ) where
    -- the source in the slot, where a call changes it
    pub must_rename : (name : List ℕ) → IsMade slots events (Renamed slot name) → (at : SourceInfo) × (source_in slot living ≡ Some at) × ((shown : SourceInfo) × (rename_reply slots events at.name name ≡ Done shown) × (shown.slot ≡ slot))
    must_rename name made_ =
        let can = can_be_named slots events made_.0 name made_.1 made_.2 in
        let same : can.source.slot ≡ slot = ap (λ (s : SourceInfo). s.slot) can.is ∙ made_.3 in
        let there = in_slot made_.0 can.source can.found in
        let spelled = named_is (sources events) made_.0 can.source can.found in
        (can.source, subst (λ (n : ℕ). source_in n living ≡ Some can.source) same there, (made_.1, ap (λ (old : List ℕ). rename_reply slots events old name) spelled ∙ made_.2, made_.3))

    pub must_remove : IsMade slots events (Removed slot) → (at : SourceInfo) × (source_in slot living ≡ Some at) × ((shown : SourceInfo) × (remove_reply slots events at.name ≡ Done shown) × (shown.slot ≡ slot))
    must_remove made_ =
        let can = can_go slots events made_.0 made_.1 made_.2 in
        let there = in_slot made_.0 made_.1 can.found in
        let spelled = named_is (sources events) made_.0 made_.1 can.found in
        (made_.1, subst (λ (n : ℕ). source_in n living ≡ Some made_.1) made_.3 there, (made_.1, ap (λ (old : List ℕ). remove_reply slots events old) spelled ∙ made_.2, made_.3))

    pub no_renaming : (name : List ℕ) → source_in slot living ≡ None → IsMade slots events (Renamed slot name) → ⊥
    no_renaming name none made_ = let must = must_rename name made_ in let no : Some must.0 ≡ None = sym must.1 ∙ none in absurd (cc)

    pub no_removal : source_in slot living ≡ None → IsMade slots events (Removed slot) → ⊥
    no_removal none made_ = let must = must_remove made_ in let no : Some must.0 ≡ None = sym must.1 ∙ none in absurd (cc)

    -- by the reply for the name of the source in the slot
    pub renames_it : (name : List ℕ) (at : SourceInfo) → source_in slot living ≡ Some at → IsMade slots events (Renamed slot name) → (shown : SourceInfo) × (rename_reply slots events at.name name ≡ Done shown) × (shown.slot ≡ slot)
    renames_it name at is made_ =
        let must = must_rename name made_ in
        subst (λ (s : SourceInfo). (shown : SourceInfo) × (rename_reply slots events s.name name ≡ Done shown) × (shown.slot ≡ slot)) (some_is must.0 at (sym must.1 ∙ is)) must.2

    pub removes_it : (at : SourceInfo) → source_in slot living ≡ Some at → IsMade slots events (Removed slot) → (shown : SourceInfo) × (remove_reply slots events at.name ≡ Done shown) × (shown.slot ≡ slot)
    removes_it at is made_ =
        let must = must_remove made_ in
        subst (λ (s : SourceInfo). (shown : SourceInfo) × (remove_reply slots events s.name ≡ Done shown) × (shown.slot ≡ slot)) (some_is must.0 at (sym must.1 ∙ is)) must.2

    -- the test of a renaming, where the reply makes it
    pub decides_renaming : (name : List ℕ) (at source : SourceInfo) → source_in slot living ≡ Some at → rename_reply slots events at.name name ≡ Done (named name source)
        → (IsTrue (eqb source.slot slot) → IsMade slots events (Renamed slot name)) × (IsMade slots events (Renamed slot name) → IsTrue (eqb source.slot slot))
    decides_renaming name at source is done = (
      λ test. (at.name, named name source, done, is_equal source.slot slot test),
      λ made_.
          let it = renames_it name at is made_ in
          let same = ap (λ (s : SourceInfo). s.slot) (done_is (named name source) it.0 (sym done ∙ it.1)) in
          eq-eqb source.slot slot (same ∙ it.2),
    )

    pub refuses_renaming : (name : List ℕ) (at : SourceInfo) → source_in slot living ≡ Some at → end_of_change removal (rename_reply slots events at.name name) ≡ told → IsMade slots events (Renamed slot name) → ⊥
    refuses_renaming name at is ends made_ = let it = renames_it name at is made_ in not_done (rename_reply slots events at.name name) it.0 it.1 ends

    pub decides_removal : (at source : SourceInfo) → source_in slot living ≡ Some at → remove_reply slots events at.name ≡ Done source
        → (IsTrue (eqb source.slot slot) → IsMade slots events (Removed slot)) × (IsMade slots events (Removed slot) → IsTrue (eqb source.slot slot))
    decides_removal at source is done = (
      λ test. (at.name, source, done, is_equal source.slot slot test),
      λ made_.
          let it = removes_it at is made_ in
          let same = ap (λ (s : SourceInfo). s.slot) (done_is source it.0 (sym done ∙ it.1)) in
          eq-eqb source.slot slot (same ∙ it.2),
    )

    pub refuses_removal : (at : SourceInfo) → source_in slot living ≡ Some at → end_of_change removal (remove_reply slots events at.name) ≡ told → IsMade slots events (Removed slot) → ⊥
    refuses_removal at is ends made_ = let it = removes_it at is made_ in not_done (remove_reply slots events at.name) it.0 it.1 ends

  -- ---- what a call makes may stand behind the others

  pub source_next : (name uri : List ℕ) (id : Id) → id.0 < 2 ^ 128 → IsUtf8 name → IsUtf8 uri → create_reply slots events name uri id ≡ Made (next_source events name uri id)
      → IsNextEvent slots events (Created (record { slot = made + 1; id = id; name = name; uri = uri }))
  source_next name uri id small is_text is_uri_text due =
      let can = can_be_made slots events name uri id (next_source events name uri id) due in (
        record {
          slot = (omega arith, omega (arith, table.few, table.made_is, can.slot, table.registry.is_slot.1));
          id = small;
          name = (is_text, can.name);
          uri = (is_uri_text, can.uri);
        },
        due ∙ ap (λ (s : SourceInfo). Made s) (sym (source_is name uri id)),
      )

  found_slot : (name : List ℕ) (s : SourceInfo) → source_named name (sources events) ≡ Some s → IsSlot s.slot
  found_slot name s found = found_all (λ (x : SourceInfo). IsSlot x.slot) (λ (x : SourceInfo). bytes_eq x.name name) living s slots_fit (ap (source_named name) table.living_is ∙ found)

  pub renaming_next : (name new_name : List ℕ) (source : SourceInfo) → IsUtf8 new_name → rename_reply slots events name new_name ≡ Done (named new_name source) → IsNextEvent slots events (renaming (named new_name source))
  renaming_next name new_name source is_text done =
      let can = can_be_named slots events name new_name (named new_name source) done in
      let same : can.source.slot ≡ source.slot = ap (λ (s : SourceInfo). s.slot) can.is in
      ((subst IsSlot same (found_slot name can.source can.found), (is_text, can.is_name)), (name, named new_name source, done, refl))

  pub removal_next : (name : List ℕ) (source : SourceInfo) → remove_reply slots events name ≡ Done source → IsNextEvent slots events (removal source)
  removal_next name source done =
      let can = can_go slots events name source done in
      (found_slot name source can.found, (name, source, done, refl))
