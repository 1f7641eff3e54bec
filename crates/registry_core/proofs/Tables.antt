-- What a registry keeps, event by event.
use Rattle.std.proofs.Common.{◌≡◌, ◌≢◌, ℕ, zero, suc, ◌+◌, ◌<◌, ◌≤◌, Bool, true, false, cond, eqb, ltb, not, List, [], ◌∷◌, ◌++◌, map, length, Option, Some, None, refl, sym, ◌∙◌, ap, subst, arith, length-append, append_assoc}
use Rattle.std.specs.Prelude.{filter, fold, sum_by, option_map}
use Rattle.std.specs.List.{AllByRecursion}
use Rattle.std.proofs.lemmas.List.{map-append}
use Rattle.std.proofs.lemmas.List.Sums.{sum_by-append}
use Rattle.std.proofs.lemmas.Bool.Decides.{nat_tests}
use Rattle.delta_base.specs.declared.id.Id.{Id}
use Rattle.log_base.specs.declared.limits.FullKind.TheVariants.{Bytes, Slots}
use Rattle.log_base.specs.declared.source_info.SourceInfo.{SourceInfo}
use Rattle.registry_core.specs.declared.event.Event.{Event}
use Rattle.registry_core.specs.declared.event.Event.TheVariants.{Created, Renamed, Removed}
use Rattle.registry_core.specs.declared.event.Entry.{Entry}
use Rattle.registry_core.specs.declared.answer.CreateAnswer.{CreateAnswer}
use Rattle.registry_core.specs.declared.answer.CreateAnswer.TheVariants.{Made, BadName, BadUri, NameTaken, IdTaken, Full}
use Rattle.registry_core.specs.declared.answer.ChangeAnswer.{ChangeAnswer}
use Rattle.registry_core.specs.declared.answer.ChangeAnswer.TheVariants.{Done, NoSuchName, BadName as IsBadName, NameTaken as IsNameTaken, Full as IsFull}
use Rattle.registry_core.specs.Answers.{first_or}
use Rattle.registry_core.specs.Names.{name_fault, uri_fault}
use Rattle.registry_core.specs.Sources.{sources, used, makes, after_event, named, renamed, source_named, source_with_id, HasSlot}
use Rattle.registry_core.specs.Texts.{event_text, registry_length, length_with}
use Rattle.registry_core.specs.Replies.{created, renamed_to, removal_answer, of_found, too_long, no_slot, create_reply, rename_reply, remove_reply, next_source}
use Rattle.log_base.specs.declared.limits.TheConstants.{PAYLOAD_FRAME, REGISTRY_LIMIT}
use Rattle.registry_core.specs.Events.{events_of, IsSlot, IsNextEvent, IsMade, AreNext, IsRegistry}
use Rattle.registry_core.specs.Tables.{SlotsRise, IsTable, ReadyEvent, IsReadyFor}

-- ---- one event more

pub events_of-push : (entries : List Entry) (entry : Entry) → events_of (entries ++ entry ∷ []) ≡ events_of entries ++ entry.event ∷ []
events_of-push entries entry = map-append (λ (entry : Entry). entry.event) entries (entry ∷ [])

folded : (living : List SourceInfo) (events : List Event) (event : Event) → fold after_event living (events ++ event ∷ []) ≡ after_event (fold after_event living events) event
folded living [] event = refl
folded living (first ∷ events) event = folded (after_event living first) events event

pub sources-push : (events : List Event) (event : Event) → sources (events ++ event ∷ []) ≡ after_event (sources events) event
unfolding sources
sources-push events event = folded [] events event

pub length-push : (slots : ℕ) (events : List Event) (event : Event) → registry_length slots (events ++ event ∷ []) ≡ length_with (registry_length slots events) event
unfolding length_with
length-push slots events event = omega (arith, sum_by-append (λ (event : Event). PAYLOAD_FRAME + length (event_text event)) events (event ∷ []))

pub longer_is : (bytes size : ℕ) (event : Event) → size ≡ length (event_text event) → bytes + PAYLOAD_FRAME + size ≡ length_with bytes event
unfolding length_with
longer_is bytes size event is = ap (λ (n : ℕ). bytes + PAYLOAD_FRAME + n) is

pub used-push : (events : List Event) (event : Event) → used (events ++ event ∷ []) ≡ used events + makes event
used-push events event = omega (arith, sum_by-append makes events (event ∷ []))

append_nil : (xs : List Event) → xs ++ [] ≡ xs
append_nil [] = refl
append_nil (x ∷ xs) = ap (λ (ys : List Event). x ∷ ys) (append_nil xs)

pub next-push : (slots : ℕ) (before events : List Event) (event : Event) → AreNext slots before events → IsNextEvent slots (before ++ events) event → AreNext slots before (events ++ event ∷ [])
next-push slots before [] event all more = (subst (λ (es : List Event). IsNextEvent slots es event) (append_nil before) more, tt)
next-push slots before (first ∷ events) event all more =
    (all.0, next-push slots (before ++ first ∷ []) events event all.1 (subst (λ (es : List Event). IsNextEvent slots es event) (sym (append_assoc before (first ∷ []) events)) more))

pub next-front : (slots : ℕ) (before events : List Event) (event : Event) → AreNext slots before (events ++ event ∷ []) → AreNext slots before events × IsNextEvent slots (before ++ events) event
next-front slots before [] event all = (tt, subst (λ (es : List Event). IsNextEvent slots es event) (sym (append_nil before)) all.0)
next-front slots before (first ∷ events) event all =
    let rest = next-front slots (before ++ first ∷ []) events event all.1 in
    ((all.0, rest.0), subst (λ (es : List Event). IsNextEvent slots es event) (append_assoc before (first ∷ []) events) rest.1)

pub registry-push : (slots : ℕ) (events : List Event) (event : Event) → IsRegistry slots events → IsNextEvent slots events event → IsRegistry slots (events ++ event ∷ [])
registry-push slots events event is next = record { is_slot = is.is_slot; are_next = next-push slots [] events event is.are_next next }

-- ---- what a reply shows

-- a creation by its tests
abbrev pub chosen : ℕ → SourceInfo → Option ℕ → Option ℕ → Option SourceInfo → Option SourceInfo → Option ℕ → Option ℕ → CreateAnswer
chosen slots source name uri other taken full long =
    first_or (Made source)
    (option_map (λ at. BadName at) name ∷ option_map (λ at. BadUri at) uri ∷ option_map (λ (o : SourceInfo). NameTaken o.id) other ∷ option_map (λ (o : SourceInfo). IdTaken o.name) taken
    ∷ option_map (λ have. Full Slots have slots) full ∷ option_map (λ have. Full Bytes have REGISTRY_LIMIT) long ∷ [])

-- a renaming by its tests
abbrev pub chosen_change : SourceInfo → Option ℕ → Option SourceInfo → Option ℕ → ChangeAnswer
chosen_change source name other long = first_or (Done source) (option_map (λ at. IsBadName at) name ∷ option_map (λ (o : SourceInfo). IsNameTaken o.id) other ∷ option_map (λ have. IsFull Bytes have REGISTRY_LIMIT) long ∷ [])

-- a removal by its test
abbrev pub chosen_removal : SourceInfo → Option ℕ → ChangeAnswer
chosen_removal source long = first_or (Done source) (option_map (λ have. IsFull Bytes have REGISTRY_LIMIT) long ∷ [])

made_by : (slots : ℕ) (source shown : SourceInfo) (name uri : Option ℕ) (other taken : Option SourceInfo) (full long : Option ℕ) → chosen slots source name uri other taken full long ≡ Made shown
    → (name ≡ None) × (uri ≡ None) × (other ≡ None) × (taken ≡ None) × (full ≡ None) × (long ≡ None) × (source ≡ shown)
made_by slots source shown (Some at) uri other taken full long is = absurd (cc)
made_by slots source shown None (Some at) other taken full long is = absurd (cc)
made_by slots source shown None None (Some o) taken full long is = absurd (cc)
made_by slots source shown None None None (Some o) full long is = absurd (cc)
made_by slots source shown None None None None (Some have) long is = absurd (cc)
made_by slots source shown None None None None None (Some have) is = absurd (cc)
made_by slots source shown None None None None None None is = (refl, refl, refl, refl, refl, refl, cc)

done_by : (source shown : SourceInfo) (name : Option ℕ) (other : Option SourceInfo) (long : Option ℕ) → chosen_change source name other long ≡ Done shown → (name ≡ None) × (other ≡ None) × (long ≡ None) × (source ≡ shown)
done_by source shown (Some at) other long is = absurd (cc)
done_by source shown None (Some o) long is = absurd (cc)
done_by source shown None None (Some have) is = absurd (cc)
done_by source shown None None None is = (refl, refl, refl, cc)

gone_by : (source shown : SourceInfo) (long : Option ℕ) → chosen_removal source long ≡ Done shown → (long ≡ None) × (source ≡ shown)
gone_by source shown (Some have) is = absurd (cc)
gone_by source shown None is = (refl, cc)

found_by : (answer : SourceInfo → ChangeAnswer) (o : Option SourceInfo) (shown : SourceInfo) → of_found answer o ≡ Done shown → (source : SourceInfo) × (o ≡ Some source) × (answer source ≡ Done shown)
found_by answer None shown is = absurd (cc)
found_by answer (Some source) shown is = (source, refl, is)

none_if : (test : Bool) (n : ℕ) → cond test (Some n) None ≡ None → test ≡ false
none_if true n is = absurd (cc)
none_if false n is = refl

pub fits : (longer : ℕ) → too_long longer ≡ None → longer ≤ REGISTRY_LIMIT
fits longer is = let test = none_if (ltb REGISTRY_LIMIT longer) longer is in grind (arith, nat_tests, test)

pub has_slot : (slots used : ℕ) → no_slot slots used ≡ None → used ≢ slots
has_slot slots used is = let test = none_if (eqb used slots) used is in grind (arith, nat_tests, test)

-- of a source that can be made
pub record CanBeMade (slots : ℕ) (events : List Event) (source shown : SourceInfo) : Type 0 where
  pub name : name_fault source.name ≡ None
  pub uri : uri_fault source.uri ≡ None
  pub free : source_named source.name (sources events) ≡ None
  pub fresh : source_with_id source.id (sources events) ≡ None
  pub slot : used events ≢ slots
  pub room : length_with (registry_length slots events) (Created shown) ≤ REGISTRY_LIMIT
  pub is : source ≡ shown

pub can_be_made : (slots : ℕ) (events : List Event) (name uri : List ℕ) (id : Id) (shown : SourceInfo) → create_reply slots events name uri id ≡ Made shown → CanBeMade slots events (next_source events name uri id) shown
unfolding create_reply
can_be_made slots events name uri id shown is =
    let source = next_source events name uri id in
    let longer = length_with (registry_length slots events) (Created source) in
    let tests = made_by slots source shown (name_fault name) (uri_fault uri) (source_named name (sources events)) (source_with_id id (sources events)) (no_slot slots (used events)) (too_long longer) is in
    record {
      name = tests.0;
      uri = tests.1;
      free = tests.2;
      fresh = tests.3;
      slot = has_slot slots (used events) tests.4;
      room = subst (λ (s : SourceInfo). length_with (registry_length slots events) (Created s) ≤ REGISTRY_LIMIT) tests.6 (fits longer tests.5);
      is = tests.6;
    }

-- of a source that can get a name
pub record CanBeNamed (slots : ℕ) (events : List Event) (name new_name : List ℕ) (shown : SourceInfo) : Type 0 where
  pub source : SourceInfo
  pub found : source_named name (sources events) ≡ Some source
  pub is_name : name_fault new_name ≡ None
  pub free : source_named new_name (sources events) ≡ None
  pub room : length_with (registry_length slots events) (Renamed source.slot new_name) ≤ REGISTRY_LIMIT
  pub is : named new_name source ≡ shown

pub can_be_named : (slots : ℕ) (events : List Event) (name new_name : List ℕ) (shown : SourceInfo) → rename_reply slots events name new_name ≡ Done shown → CanBeNamed slots events name new_name shown
unfolding rename_reply
can_be_named slots events name new_name shown is =
    let found = found_by (renamed_to (sources events) (registry_length slots events) new_name) (source_named name (sources events)) shown is in
    let longer = length_with (registry_length slots events) (Renamed found.0.slot new_name) in
    let tests = done_by (named new_name found.0) shown (name_fault new_name) (source_named new_name (sources events)) (too_long longer) found.2 in
    record { source = found.0; found = found.1; is_name = tests.0; free = tests.1; room = fits longer tests.2; is = tests.3 }

-- of a source that can go
pub record CanGo (slots : ℕ) (events : List Event) (name : List ℕ) (shown : SourceInfo) : Type 0 where
  pub found : source_named name (sources events) ≡ Some shown
  pub room : length_with (registry_length slots events) (Removed shown.slot) ≤ REGISTRY_LIMIT

pub can_go : (slots : ℕ) (events : List Event) (name : List ℕ) (shown : SourceInfo) → remove_reply slots events name ≡ Done shown → CanGo slots events name shown
unfolding remove_reply
can_go slots events name shown is =
    let found = found_by (removal_answer (registry_length slots events)) (source_named name (sources events)) shown is in
    let longer = length_with (registry_length slots events) (Removed found.0.slot) in
    let tests = gone_by found.0 shown (too_long longer) found.2 in
    record {
      found = found.1 ∙ ap (λ (s : SourceInfo). Some s) tests.1;
      room = subst (λ (s : SourceInfo). length_with (registry_length slots events) (Removed s.slot) ≤ REGISTRY_LIMIT) tests.1 (fits longer tests.0);
    }

-- an event that is made has room
pub has_room : (slots : ℕ) (events : List Event) (event : Event) → IsMade slots events event → length_with (registry_length slots events) event ≤ REGISTRY_LIMIT
has_room slots events (Created source) made = (can_be_made slots events source.name source.uri source.id source made).room
has_room slots events (Renamed slot name) made =
    let can = can_be_named slots events made.0 name made.1 made.2 in
    let same : can.source.slot ≡ slot = ap (λ (s : SourceInfo). s.slot) can.is ∙ made.3 in
    subst (λ (n : ℕ). length_with (registry_length slots events) (Renamed n name) ≤ REGISTRY_LIMIT) same can.room
has_room slots events (Removed slot) made =
    let can = can_go slots events made.0 made.1 made.2 in
    subst (λ (n : ℕ). length_with (registry_length slots events) (Removed n) ≤ REGISTRY_LIMIT) made.3 can.room

-- ---- slots

pub rise_within : (low high : ℕ) (living : List SourceInfo) → SlotsRise low high living → low ≤ high
rise_within low high [] rise = rise
rise_within low high (source ∷ living) rise = omega (arith, rise.0, rise_within source.slot high living rise.1)

rise_lower : (lower low high : ℕ) (living : List SourceInfo) → lower ≤ low → SlotsRise low high living → SlotsRise lower high living
rise_lower lower low high [] le rise = omega (arith, le, rise)
rise_lower lower low high (source ∷ living) le rise = (omega (arith, le, rise.0), rise.1)

rise-push : (low high : ℕ) (living : List SourceInfo) (source : SourceInfo) → SlotsRise low high living → source.slot ≡ high + 1 → SlotsRise low (high + 1) (living ++ source ∷ [])
rise-push low high [] source rise is = (omega (arith, rise, is), omega (arith, is))
rise-push low high (first ∷ living) source rise is = (rise.0, rise-push first.slot high living source rise.1 is)

renamed_step : (low high : ℕ) (name : List ℕ) (source : SourceInfo) (rest : List SourceInfo) (test : Bool) → low < source.slot → SlotsRise source.slot high rest → SlotsRise low high (cond test (named name source) source ∷ rest)
renamed_step low high name source rest true above rise = (above, rise)
renamed_step low high name source rest false above rise = (above, rise)

rise-renamed : (low high slot : ℕ) (name : List ℕ) (living : List SourceInfo) → SlotsRise low high living → SlotsRise low high (map (renamed slot name) living)
rise-renamed low high slot name [] rise = rise
rise-renamed low high slot name (source ∷ living) rise =
    renamed_step low high name source (map (renamed slot name) living) (eqb source.slot slot) rise.0 (rise-renamed source.slot high slot name living rise.1)

filtered_step : (low high : ℕ) (source : SourceInfo) (rest : List SourceInfo) (test : Bool) → low < source.slot → SlotsRise source.slot high rest → SlotsRise low high (cond test (source ∷ rest) rest)
filtered_step low high source rest true above rise = (above, rise)
filtered_step low high source rest false above rise = rise_lower low source.slot high rest (omega (arith, above)) rise

rise-filtered : (low high : ℕ) (test : SourceInfo → Bool) (living : List SourceInfo) → SlotsRise low high living → SlotsRise low high (filter test living)
rise-filtered low high test [] rise = rise
rise-filtered low high test (source ∷ living) rise = filtered_step low high source (filter test living) (test source) rise.0 (rise-filtered source.slot high test living rise.1)

pub are_slots : (low high : ℕ) (living : List SourceInfo) → SlotsRise low high living → high ≤ 16 → AllByRecursion (λ (s : SourceInfo). IsSlot s.slot) living
are_slots low high [] rise few = tt
are_slots low high (source ∷ living) rise few = ((omega (arith, rise.0), omega (arith, few, rise_within source.slot high living rise.1)), are_slots source.slot high living rise.1 few)

pub have_slots : (slots low high : ℕ) (living : List SourceInfo) → SlotsRise low high living → high ≤ slots → AllByRecursion (HasSlot slots) living
have_slots slots low high [] rise few = tt
have_slots slots low high (source ∷ living) rise few = ((omega (arith, rise.0), omega (arith, few, rise_within source.slot high living rise.1)), have_slots slots source.slot high living rise.1 few)

-- ---- tables

pub table-push : (slots : ℕ) (events : List Event) (living : List SourceInfo) (made bytes : ℕ) (event : Event) → IsTable slots events living made bytes → IsNextEvent slots events event
    → IsTable slots (events ++ event ∷ []) (after_event living event) (made + makes event) (length_with bytes event)
table-push slots events living made bytes event table next = record {
  living_is = ap (λ (l : List SourceInfo). after_event l event) table.living_is ∙ sym (sources-push events event);
  made_is = ap (λ (n : ℕ). n + makes event) table.made_is ∙ sym (used-push events event);
  bytes_is = ap (λ (n : ℕ). length_with n event) table.bytes_is ∙ sym (length-push slots events event);
  few = few event next.1;
  short = subst (λ (n : ℕ). length_with n event ≤ REGISTRY_LIMIT) (sym table.bytes_is) (has_room slots events event next.1);
  rise = rises event next.1;
  registry = registry-push slots events event table.registry next;
}
  where
    few : (event : Event) → IsMade slots events event → made + makes event ≤ slots
    few (Created source) is = let can = can_be_made slots events source.name source.uri source.id source is in omega (arith, table.few, can.slot, table.made_is)
    few (Renamed slot name) is = omega (arith, table.few)
    few (Removed slot) is = omega (arith, table.few)

    rises : (event : Event) → IsMade slots events event → SlotsRise 0 (made + makes event) (after_event living event)
    rises (Created source) is =
        let can = can_be_made slots events source.name source.uri source.id source is in
        rise-push 0 made living source table.rise (ap (λ (s : SourceInfo). s.slot) (sym can.is) ∙ ap (λ (n : ℕ). n + 1) (sym table.made_is))
    rises (Renamed slot name) is = subst (λ (n : ℕ). SlotsRise 0 n (map (renamed slot name) living)) (omega arith) (rise-renamed 0 made slot name living table.rise)
    rises (Removed slot) is = subst (λ (n : ℕ). SlotsRise 0 n (filter (λ (s : SourceInfo). not (eqb s.slot slot)) living)) (omega arith) (rise-filtered 0 made (λ (s : SourceInfo). not (eqb s.slot slot)) living table.rise)

pub empty_table : (slots : ℕ) (entries : List Entry) (living : List SourceInfo) (bytes : ℕ) → IsSlot slots → entries ≡ [] → living ≡ [] → bytes ≡ registry_length slots [] → bytes ≤ REGISTRY_LIMIT → IsTable slots (events_of entries) living 0 bytes
unfolding sources
empty_table slots entries living bytes is_slot no_entries no_living is short =
    subst (λ (es : List Entry). IsTable slots (events_of es) living 0 bytes) (sym no_entries) (record {
      living_is = no_living;
      made_is = refl;
      bytes_is = is;
      few = omega arith;
      short = short;
      rise = subst (λ (l : List SourceInfo). SlotsRise 0 0 l) (sym no_living) (omega arith);
      registry = record { is_slot = is_slot; are_next = tt };
    })

pub ready_itself : (slots : ℕ) (events : List Event) (event : Event) (ready : ReadyEvent) → IsReadyFor slots events event ready → IsReadyFor slots events ready.event ready
ready_itself slots events event ready is = subst (λ (e : Event). IsReadyFor slots events e ready) (sym is.event_is) is
