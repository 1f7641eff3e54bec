-- In a registry sources are apart.
use Rattle.std.proofs.Common.{◌≡◌, ◌≢◌, ℕ, ◌+◌, ◌<◌, ◌≤◌, Bool, true, false, cond, eqb, not, List, [], ◌∷◌, ◌++◌, map, length, Option, Some, None, refl, sym, ◌∙◌, ap, subst, arith, append_assoc, append-nil}
use Rattle.std.specs.Prelude.{filter}
use Rattle.std.specs.List.{AllByRecursion, find}
use Rattle.std.specs.Str.{bytes_eq}
use Rattle.std.proofs.lemmas.Bool.Decides.{nat_tests}
use Rattle.std.proofs.lemmas.Fmt.{length-decimal-le_succ}
use Rattle.std.proofs.lemmas.Slice.Eq.{bytes_eq-Decides}
use Rattle.registry_core.specs.Apart.{DifferBy, AreApart}
use Rattle.log_base.specs.declared.source_info.SourceInfo.{SourceInfo}
use Rattle.registry_core.specs.declared.event.Event.{Event}
use Rattle.registry_core.specs.declared.event.Event.TheVariants.{Created, Renamed, Removed}
use Rattle.registry_core.specs.Events.{IsMade, AreNext, IsRegistry}
use Rattle.registry_core.specs.Sources.{sources, used, makes, after_event, named, renamed, source_named, source_with_id}
use Rattle.registry_core.specs.Tables.{SlotsRise, IsTable}
use Rattle.registry_core.specs.Texts.{registry_length}
use Rattle.registry_core.proofs.Tables.{sources-push, table-push, empty_table, can_be_made, can_be_named, length-push, used-push}

-- ---- all of some sources

all-push : (P : SourceInfo → Type 0) (living : List SourceInfo) (source : SourceInfo) → AllByRecursion P living → P source → AllByRecursion P (living ++ source ∷ [])
all-push P [] source all one = (one, tt)
all-push P (first ∷ living) source all one = (all.0, all-push P living source all.1 one)

all-if : (P : SourceInfo → Type 0) (test : Bool) (source : SourceInfo) (rest : List SourceInfo) → P source → AllByRecursion P rest → AllByRecursion P (cond test (source ∷ rest) rest)
all-if P true source rest one all = (one, all)
all-if P false source rest one all = all

all-filter : (P : SourceInfo → Type 0) (test : SourceInfo → Bool) (living : List SourceInfo) → AllByRecursion P living → AllByRecursion P (filter test living)
all-filter P test [] all = tt
all-filter P test (source ∷ living) all = all-if P (test source) source (filter test living) all.0 (all-filter P test living all.1)

all-map : (P Q : SourceInfo → Type 0) (f : SourceInfo → SourceInfo) → ((source : SourceInfo) → P source → Q (f source)) → (living : List SourceInfo) → AllByRecursion P living → AllByRecursion Q (map f living)
all-map P Q f keeps [] all = tt
all-map P Q f keeps (source ∷ living) all = (keeps source all.0, all-map P Q f keeps living all.1)

-- none was found, so none passes
none_here : (test : Bool) (source : SourceInfo) (rest : Option SourceInfo) → cond test (Some source) rest ≡ None → (test ≡ false) × (rest ≡ None)
none_here true source rest none = absurd (cc)
none_here false source rest none = (refl, none)

none_passes : (p : SourceInfo → Bool) (living : List SourceInfo) → find p living ≡ None → AllByRecursion (λ (s : SourceInfo). p s ≡ false) living
none_passes p [] none = tt
none_passes p (source ∷ living) none = let parts = none_here (p source) source (find p living) none in (parts.0, none_passes p living parts.1)

all-weaker : (P Q : SourceInfo → Type 0) → ((source : SourceInfo) → P source → Q source) → (living : List SourceInfo) → AllByRecursion P living → AllByRecursion Q living
all-weaker P Q keeps [] all = tt
all-weaker P Q keeps (source ∷ living) all = (keeps source all.0, all-weaker P Q keeps living all.1)

-- ---- keys

module _ {K : Type 0} (key : SourceInfo → K) where
  differ-push : (living : List SourceInfo) (source : SourceInfo) → DifferBy key living → AllByRecursion (λ (s : SourceInfo). key s ≢ key source) living → DifferBy key (living ++ source ∷ [])
  differ-push [] source differ none = (tt, tt)
  differ-push (first ∷ living) source differ none =
      (all-push (λ (s : SourceInfo). key s ≢ key first) living source differ.0 (λ same. none.0 (sym same)), differ-push living source differ.1 none.1)

  differ-if : (test : Bool) (source : SourceInfo) (rest : List SourceInfo) → AllByRecursion (λ (s : SourceInfo). key s ≢ key source) rest → DifferBy key rest → DifferBy key (cond test (source ∷ rest) rest)
  differ-if true source rest none differ = (none, differ)
  differ-if false source rest none differ = differ

  differ-filter : (test : SourceInfo → Bool) (living : List SourceInfo) → DifferBy key living → DifferBy key (filter test living)
  differ-filter test [] differ = tt
  differ-filter test (source ∷ living) differ =
      differ-if (test source) source (filter test living) (all-filter (λ (s : SourceInfo). key s ≢ key source) test living differ.0) (differ-filter test living differ.1)

-- ---- renamings

same_id : (slot : ℕ) (name : List ℕ) (source : SourceInfo) (test : Bool) → (cond test (named name source) source).id.0 ≡ source.id.0
same_id slot name source true = refl
same_id slot name source false = refl

ids-renamed : (slot : ℕ) (name : List ℕ) (living : List SourceInfo) → DifferBy (λ (s : SourceInfo). s.id.0) living → DifferBy (λ (s : SourceInfo). s.id.0) (map (renamed slot name) living)
ids-renamed slot name [] differ = tt
ids-renamed slot name (source ∷ living) differ = (
  all-map (λ (s : SourceInfo). s.id.0 ≢ source.id.0) (λ (s : SourceInfo). s.id.0 ≢ (renamed slot name source).id.0) (renamed slot name)
      (λ s apart same. apart (sym (same_id slot name s (eqb s.slot slot)) ∙ same ∙ same_id slot name source (eqb source.slot slot))) living differ.0,
  ids-renamed slot name living differ.1,
)

-- behind the slot nothing changes
unchanged : (slot : ℕ) (name : List ℕ) (low high : ℕ) (living : List SourceInfo) → slot ≤ low → SlotsRise low high living → map (renamed slot name) living ≡ living
unchanged slot name low high [] below rise = refl
unchanged slot name low high (source ∷ living) below rise =
    let above = rise.0 in
    let test : eqb source.slot slot ≡ false = grind (arith, nat_tests) in
    ap (λ (b : Bool). cond b (named name source) source ∷ map (renamed slot name) living) test ∙ ap (λ (l : List SourceInfo). source ∷ l) (unchanged slot name source.slot high living (omega (arith, below, above)) rise.1)

renamed_apart : (slot : ℕ) (name other : List ℕ) (source : SourceInfo) (test : Bool) → other ≢ name → source.name ≢ other → (cond test (named name source) source).name ≢ other
renamed_apart slot name other source true new apart = λ same. new (sym same)
renamed_apart slot name other source false new apart = apart

names-renamed : (slot : ℕ) (name : List ℕ) (low high : ℕ) (living : List SourceInfo) → SlotsRise low high living → AllByRecursion (λ (s : SourceInfo). s.name ≢ name) living → DifferBy (λ (s : SourceInfo). s.name) living
    → DifferBy (λ (s : SourceInfo). s.name) (map (renamed slot name) living)
names-renamed slot name low high [] rise free differ = tt
names-renamed slot name low high (source ∷ living) rise free differ = by_slot (names-renamed slot name source.slot high living rise.1 free.1 differ.1) (eqb source.slot slot) refl
  where
    by_slot : DifferBy (λ (s : SourceInfo). s.name) (map (renamed slot name) living) → (test : Bool) → eqb source.slot slot ≡ test → DifferBy (λ (s : SourceInfo). s.name) (cond test (named name source) source ∷ map (renamed slot name) living)
    by_slot behind true is =
        let at : slot ≤ source.slot = grind (arith, nat_tests) in
        let rest = unchanged slot name source.slot high living at rise.1 in
        subst (λ (l : List SourceInfo). DifferBy (λ (s : SourceInfo). s.name) (named name source ∷ l)) (sym rest) (free.1, differ.1)
    by_slot behind false is = (
      all-map (λ (s : SourceInfo). s.name ≢ source.name) (λ (s : SourceInfo). s.name ≢ source.name) (renamed slot name) (λ s apart. renamed_apart slot name source.name s (eqb s.slot slot) free.0 apart) living differ.0,
      behind,
    )

-- ---- registries

other_name : (name : List ℕ) (source : SourceInfo) → bytes_eq source.name name ≡ false → source.name ≢ name
other_name name source test = grind (arith, bytes_eq-Decides source.name name, test)

other_id : (a b : ℕ) → eqb a b ≡ false → a ≢ b
other_id a b test = grind (arith, nat_tests, test)

free_name : (name : List ℕ) (living : List SourceInfo) → source_named name living ≡ None → AllByRecursion (λ (s : SourceInfo). s.name ≢ name) living
free_name name living none = all-weaker (λ (s : SourceInfo). bytes_eq s.name name ≡ false) (λ (s : SourceInfo). s.name ≢ name) (other_name name) living (none_passes (λ (s : SourceInfo). bytes_eq s.name name) living none)

-- what is known of the events so far
record Known (slots : ℕ) (events : List Event) : Type 0 where
  table : IsTable slots events (sources events) (used events) (registry_length slots events)
  names : DifferBy (λ (source : SourceInfo). source.name) (sources events)
  ids : DifferBy (λ (source : SourceInfo). source.id.0) (sources events)

known_more : (slots : ℕ) (events : List Event) (event : Event) → Known slots events → IsMade slots events event → DifferBy (λ (s : SourceInfo). s.name) (after_event (sources events) event) × DifferBy (λ (s : SourceInfo). s.id.0) (after_event (sources events) event)
known_more slots events (Created source) known made =
    let can = can_be_made slots events source.name source.uri source.id source made in (
      differ-push (λ (s : SourceInfo). s.name) (sources events) source known.names (free_name source.name (sources events) can.free),
      differ-push (λ (s : SourceInfo). s.id.0) (sources events) source known.ids (all-weaker (λ (s : SourceInfo). eqb s.id.0 source.id.0 ≡ false) (λ (s : SourceInfo). s.id.0 ≢ source.id.0) (λ s test. other_id s.id.0 source.id.0 test) (sources events) (none_passes (λ (s : SourceInfo). eqb s.id.0 source.id.0) (sources events) can.fresh)),
    )
known_more slots events (Renamed slot name) known made =
    let can = can_be_named slots events made.0 name made.1 made.2 in
    (names-renamed slot name 0 (used events) (sources events) known.table.rise (free_name name (sources events) can.free) known.names, ids-renamed slot name (sources events) known.ids)
known_more slots events (Removed slot) known made =
    (differ-filter (λ (s : SourceInfo). s.name) (λ (s : SourceInfo). not (eqb s.slot slot)) (sources events) known.names, differ-filter (λ (s : SourceInfo). s.id.0) (λ (s : SourceInfo). not (eqb s.slot slot)) (sources events) known.ids)

goes : (slots : ℕ) (before events : List Event) → Known slots before → AreNext slots before events → Known slots (before ++ events)
goes slots before [] known next = subst (λ (es : List Event). Known slots es) (sym (append-nil before)) known
goes slots before (event ∷ events) known next =
    let more = known_more slots before event known next.0.1 in
    let behind = sym (sources-push before event) in
    let table = table-push slots before (sources before) (used before) (registry_length slots before) event known.table next.0 in
    let known_next : Known slots (before ++ event ∷ []) = record {
      table = rw (sources-push before event, used-push before event, length-push slots before event) table;
      names = subst (λ (l : List SourceInfo). DifferBy (λ (s : SourceInfo). s.name) l) behind more.0;
      ids = subst (λ (l : List SourceInfo). DifferBy (λ (s : SourceInfo). s.id.0) l) behind more.1;
    } in
    subst (λ (es : List Event). Known slots es) (append_assoc before (event ∷ []) events) (goes slots (before ++ event ∷ []) events known_next next.1)

none_known : (slots : ℕ) (events : List Event) → IsRegistry slots events → Known slots []
unfolding sources
none_known slots events is = record {
  table = empty_table slots [] [] (registry_length slots []) is.is_slot refl refl refl (let short = length-decimal-le_succ slots (omega (arith, is.is_slot.1)) in omega (arith, short, is.is_slot.1));
  names = tt;
  ids = tt;
}

pub apart : (slots : ℕ) (events : List Event) → IsRegistry slots events → AreApart events
apart slots events is =
    let known = goes slots [] events (none_known slots events is) is.are_next in
    record { names = known.names; ids = known.ids; slots = known.table.rise }
