-- Reading a registry goes on from payload to payload.
use Rattle.std.proofs.Common.{◌≡◌, ◌⊎◌, inl, inr, ℕ, zero, suc, ◌+◌, ◌<◌, ◌≤◌, List, [], ◌∷◌, ◌++◌, map, length, take, drop, get_or, refl, sym, ◌∙◌, ap, subst, arith, length-append, append_assoc}
use Rattle.std.specs.Fmt.{decimal}
use Rattle.std.specs.List.{AllByRecursion}
use Rattle.std.proofs.lemmas.Fmt.{decimal_injective}
use Rattle.std.proofs.lemmas.List.{map-append, take_at, length-take}
use Rattle.registry_core.specs.Texts.{slots_payload}
use Rattle.registry_core.specs.declared.event.Event.{Event}
use Rattle.registry_core.specs.declared.event.Entry.{Entry}
use Rattle.registry_core.specs.Texts.{event_text, registry_payloads}
use Rattle.registry_core.specs.Events.{events_of, IsSlot, IsSoundEvent, IsNextEvent, AreNext, IsRegistry, IsRegistryFile, BreaksAtEvent}
use Rattle.registry_core.proofs.OneText.{one_event}
use Rattle.registry_core.proofs.Tables.{events_of-push, next-front, registry-push}

-- lists that are equal have equal heads and tails
heads : {X : Type 0} (x y : X) (xs ys : List X) → x ∷ xs ≡ y ∷ ys → (x ≡ y) × (xs ≡ ys)
heads x y xs ys same = (cc, cc)

same_decimal : (a b : ℕ) → slots_payload a ≡ slots_payload b → decimal a ≡ decimal b
same_decimal a b same = (heads 32 32 (decimal a) (decimal b) (heads 83 83 (32 ∷ decimal a) (32 ∷ decimal b) same).1).1

pub one_slots : (a b : ℕ) → IsSlot a → IsSlot b → slots_payload a ≡ slots_payload b → a ≡ b
one_slots a b is_a is_b same = decimal_injective a b (omega (arith, is_a.1)) (omega (arith, is_b.1)) (same_decimal a b same)

-- the last of some events whose texts end with a text
record HasLast (events : List Event) (texts : List (List ℕ)) (text : List ℕ) : Type 0 where
  front : List Event
  last : Event
  parts : events ≡ front ++ last ∷ []
  front_texts : map event_text front ≡ texts
  last_text : event_text last ≡ text

has_last : (events : List Event) (texts : List (List ℕ)) (text : List ℕ) → map event_text events ≡ texts ++ text ∷ [] → HasLast events texts text
has_last [] [] text same = absurd (cc)
has_last [] (t ∷ texts) text same = absurd (cc)
has_last (event ∷ []) [] text same = record { front = []; last = event; parts = refl; front_texts = refl; last_text = (heads (event_text event) text [] [] same).0 }
has_last (event ∷ (next ∷ events)) [] text same = let parts = heads (event_text event) text (map event_text (next ∷ events)) [] same in let no : event_text next ∷ map event_text events ≡ [] = parts.1 in absurd (cc)
has_last (event ∷ events) (t ∷ texts) text same =
    let parts = heads (event_text event) t (map event_text events) (texts ++ text ∷ []) same in
    let rest = has_last events texts text parts.1 in
    record { front = event ∷ rest.front; last = rest.last; parts = ap (λ (es : List Event). event ∷ es) rest.parts; front_texts = ap (λ (t : List ℕ). t ∷ map event_text rest.front) parts.0 ∙ ap (λ (ts : List (List ℕ)). t ∷ ts) rest.front_texts; last_text = rest.last_text }

-- texts are those of one list of events that may stand one behind another
one_list : (slots : ℕ) (before a b : List Event) → AreNext slots before a → AreNext slots before b → map event_text a ≡ map event_text b → a ≡ b
one_list slots before [] [] is_a is_b same = refl
one_list slots before [] (y ∷ b) is_a is_b same = absurd (cc)
one_list slots before (x ∷ a) [] is_a is_b same = absurd (cc)
one_list slots before (x ∷ a) (y ∷ b) is_a is_b same =
    let parts = heads (event_text x) (event_text y) (map event_text a) (map event_text b) same in
    let first : x ≡ y = one_event x y is_a.0.0 is_b.0.0 parts.0 in
    let rest = one_list slots (before ++ x ∷ []) a b is_a.1 (subst (λ (e : Event). AreNext slots (before ++ e ∷ []) b) (sym first) is_b.1) parts.1 in
    ap (λ (e : Event). e ∷ a) first ∙ ap (λ (es : List Event). y ∷ es) rest

-- payloads are those of one registry
pub one_registry : (payloads : List (List ℕ)) (slots slots' : ℕ) (events events' : List Event) → IsRegistryFile payloads slots events → IsRegistryFile payloads slots' events' → (slots ≡ slots') × (events ≡ events')
one_registry payloads slots slots' events events' is is' =
    let parts = heads (slots_payload slots) (slots_payload slots') (map event_text events) (map event_text events') (is.0 ∙ sym is'.0) in
    let same = one_slots slots slots' is.1.is_slot is'.1.is_slot parts.0 in
    (same, one_list slots [] events events' is.1.are_next (subst (λ (n : ℕ). AreNext n [] events') (sym same) is'.1.are_next) parts.1)

-- what was found of the payloads so far
pub record AreFound (texts : List (List ℕ)) (slots : ℕ) (entries : List Entry) : Type 0 where
  pub texts_are : map event_text (events_of entries) ≡ texts
  pub registry : IsRegistry slots (events_of entries)
  pub by_nobody : AllByRecursion (λ (entry : Entry). entry.by ≡ 0) entries

by_nobody-push : (entries : List Entry) (entry : Entry) → AllByRecursion (λ (entry : Entry). entry.by ≡ 0) entries → entry.by ≡ 0 → AllByRecursion (λ (entry : Entry). entry.by ≡ 0) (entries ++ entry ∷ [])
by_nobody-push [] entry all is = (is, tt)
by_nobody-push (first ∷ entries) entry all is = (all.0, by_nobody-push entries entry all.1 is)

pub found_none : (slots : ℕ) (entries : List Entry) → IsSlot slots → entries ≡ [] → AreFound [] slots entries
found_none slots entries is none = subst (λ (es : List Entry). AreFound [] slots es) (sym none) (record { texts_are = refl; registry = record { is_slot = is; are_next = tt }; by_nobody = tt })

-- one payload more
pub found_more : (texts : List (List ℕ)) (text : List ℕ) (slots : ℕ) (entries new : List Entry) (event : Event) → AreFound texts slots entries → event_text event ≡ text → IsNextEvent slots (events_of entries) event
    → new ≡ entries ++ record { event = event; by = 0 } ∷ [] → AreFound (texts ++ text ∷ []) slots new
found_more texts text slots entries new event found is next pushed =
    let entry : Entry = record { event = event; by = 0 } in
    let events : events_of new ≡ events_of entries ++ event ∷ [] = ap events_of pushed ∙ events_of-push entries entry in
    record {
      texts_are = ap (λ (es : List Event). map event_text es) events ∙ map-append event_text (events_of entries) (event ∷ []) ∙ ap (λ (ts : List (List ℕ)). ts ++ event_text event ∷ []) found.texts_are ∙ ap (λ (t : List ℕ). texts ++ t ∷ []) is;
      registry = subst (λ (es : List Event). IsRegistry slots es) (sym events) (registry-push slots (events_of entries) event found.registry next);
      by_nobody = subst (λ (es : List Entry). AllByRecursion (λ (entry : Entry). entry.by ≡ 0) es) (sym pushed) (by_nobody-push entries entry found.by_nobody refl);
    }

-- where no event is next, the payloads are no registry's
no_registry : (slots slots' : ℕ) (texts : List (List ℕ)) (text : List ℕ) (entries : List Entry) (events : List Event) → AreFound texts slots entries
    → ((event : Event) → IsNextEvent slots (events_of entries) event → event_text event ≡ text → ⊥) → IsRegistryFile (slots_payload slots ∷ texts ++ text ∷ []) slots' events → ⊥
no_registry slots slots' texts text entries events found none is =
    let parts = heads (slots_payload slots') (slots_payload slots) (map event_text events) (texts ++ text ∷ []) is.0 in
    let same = one_slots slots' slots is.1.is_slot found.registry.is_slot parts.0 in
    let last = has_last events texts text parts.1 in
    let next = next-front slots [] last.front last.last (subst (λ (es : List Event). AreNext slots [] es) last.parts (subst (λ (n : ℕ). AreNext n [] events) same is.1.are_next)) in
    let front : last.front ≡ events_of entries = one_list slots [] last.front (events_of entries) next.0 found.registry.are_next (last.front_texts ∙ sym found.texts_are) in
    none last.last (subst (λ (es : List Event). IsNextEvent slots es last.last) front next.1) last.last_text

-- the payload behind those that were found may not stand there
pub breaks_at : (slots : ℕ) (texts : List (List ℕ)) (text : List ℕ) (rest : List (List ℕ)) (entries : List Entry) → AreFound texts slots entries
    → ((event : Event) → IsNextEvent slots (events_of entries) event → event_text event ≡ text → ⊥) → BreaksAtEvent (slots_payload slots ∷ texts ++ text ∷ rest) (length texts + 1)
breaks_at slots texts text rest entries found none =
    let all = slots_payload slots ∷ texts ++ text ∷ rest in
    let before : take (length texts + 1) all ≡ slots_payload slots ∷ texts = take_at (slots_payload slots ∷ texts) (text ∷ rest) (length texts + 1) (omega arith) in
    let here : take (length texts + 1 + 1) all ≡ slots_payload slots ∷ texts ++ text ∷ [] =
    ap (λ (ts : List (List ℕ)). take (length texts + 1 + 1) (slots_payload slots ∷ ts)) (sym (append_assoc texts (text ∷ []) rest))
    ∙ take_at (slots_payload slots ∷ texts ++ text ∷ []) rest (length texts + 1 + 1) (omega (arith, length-append texts (text ∷ []))) in
    record {
      sound_before = inr (slots, events_of entries, (ap (λ (ts : List (List ℕ)). slots_payload slots ∷ ts) found.texts_are ∙ sym before, found.registry));
      broken = λ slots' events is. no_registry slots slots' texts text entries events found none (subst (λ (ps : List (List ℕ)). IsRegistryFile ps slots' events) here is);
    }

-- no first payload that tells the slots
pub breaks_first : (payloads : List (List ℕ)) → ((slots : ℕ) (events : List Event) → IsRegistryFile (take 1 payloads) slots events → ⊥) → BreaksAtEvent payloads 0
breaks_first payloads none = record { sound_before = inl refl; broken = none }

pub no_first : (slots : ℕ) (events : List Event) → IsRegistryFile [] slots events → ⊥
no_first slots events is = let no : slots_payload slots ∷ map event_text events ≡ [] = is.0 in absurd (cc)

pub no_slots : (first : List ℕ) (rest : List (List ℕ)) → ((slots : ℕ) → IsSlot slots → slots_payload slots ≡ first → ⊥) → (slots : ℕ) (events : List Event) → IsRegistryFile (take 1 (first ∷ rest)) slots events → ⊥
no_slots first rest none slots events is = none slots is.1.is_slot (heads (slots_payload slots) first (map event_text events) [] is.0).0

-- ---- the payloads by their parts

first_rest : (xs : List (List ℕ)) (x : List ℕ) → 1 ≤ length xs → x ≡ get_or xs 0 x → x ∷ drop 1 xs ≡ xs
first_rest [] x some is = absurd (omega arith)
first_rest (y ∷ xs) x some is = ap (λ (z : List ℕ). z ∷ xs) is

parted : (xs : List (List ℕ)) (place : ℕ) (x : List ℕ) → place < length xs → x ≡ get_or xs place x → take place xs ++ x ∷ drop (suc place) xs ≡ xs
parted [] place x within is = absurd (omega arith)
parted (y ∷ xs) zero x within is = ap (λ (z : List ℕ). z ∷ xs) is
parted (y ∷ xs) (suc place) x within is = ap (λ (zs : List (List ℕ)). y ∷ zs) (parted xs place x (omega arith) is)

pub breaks_in : (payloads : List (List ℕ)) (first text : List ℕ) (rest : List (List ℕ)) (slots place : ℕ) (entries : List Entry) → 1 ≤ length payloads → first ≡ get_or payloads 0 first → slots_payload slots ≡ first → rest ≡ drop 1 payloads
    → place < length rest → text ≡ get_or rest place text → AreFound (take place rest) slots entries → ((event : Event) → IsNextEvent slots (events_of entries) event → event_text event ≡ text → ⊥) → BreaksAtEvent payloads (place + 1)
breaks_in payloads first text rest slots place entries some is_first tells is_rest within is_text found none =
    let here = breaks_at slots (take place rest) text (drop (suc place) rest) entries found none in
    let size : length (take place rest) ≡ place = omega (arith, length-take place rest, within) in
    let all : slots_payload slots ∷ take place rest ++ text ∷ drop (suc place) rest ≡ payloads =
    ap (λ (ts : List (List ℕ)). slots_payload slots ∷ ts) (parted rest place text within is_text ∙ is_rest) ∙ ap (λ (t : List ℕ). t ∷ drop 1 payloads) tells ∙ first_rest payloads first some is_first in
    subst (λ (ps : List (List ℕ)). BreaksAtEvent ps (place + 1)) all (subst (λ (n : ℕ). BreaksAtEvent (slots_payload slots ∷ take place rest ++ text ∷ drop (suc place) rest) (n + 1)) size here)
