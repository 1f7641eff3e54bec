-- The parts of an event's text.
use Rattle.std.proofs.Common.{◌≡◌, ◌≢◌, ℕ, zero, suc, ◌+◌, ◌-◌, ◌<◌, ◌≤◌, ◌^◌, Bool, true, false, cond, eqb, not, List, [], ◌∷◌, ◌++◌, length, drop, get_or, Option, Some, None, refl, sym, ◌∙◌, ap, subst, arith}
use Rattle.std.specs.Prelude.{◌||◌, ◌%◌}
use Rattle.std.specs.Fmt.{decimal}
use Rattle.std.specs.Int.{w128, to_be_bytes}
use Rattle.std.proofs.lemmas.Bool.Decides.{nat_tests}
use Rattle.std.proofs.lemmas.Fmt.{decimal_by_steps}
use Rattle.uuid.specs.Text.{by_index, hyphenated_text, lower, hex_digit, nibble, digit_place, is_hyphen_place, hyphen}
use Rattle.uuid.proofs.TextLemmas.{by_index_at, by_index_length, nibble_small}
use Rattle.delta_base.specs.Ids.{text_of}
use Rattle.registry_core.specs.Blanks.{HasNoBlank}
use Rattle.registry_core.specs.Names.{may_stand, name_stop, name_fault}
use Rattle.log_base.specs.declared.source_info.SourceInfo.{SourceInfo}
use Rattle.registry_core.specs.Texts.{source_text}
use Rattle.registry_core.specs.Events.{IsSlot, IsSource}

-- there is one cut at the first blank
pub one_cut : (a b x y : List ℕ) → HasNoBlank a → HasNoBlank x → a ++ 32 ∷ b ≡ x ++ 32 ∷ y → (a ≡ x) × (b ≡ y)
one_cut [] b [] y no_a no_x same = (refl, cc)
one_cut [] b (c ∷ x) y no_a no_x same = let first : 32 ≡ c = cc in absurd (no_x 0 (omega arith) (sym first))
one_cut (c ∷ a) b [] y no_a no_x same = let first : c ≡ 32 = cc in absurd (no_a 0 (omega arith) first)
one_cut (c ∷ a) b (d ∷ x) y no_a no_x same =
    let first : c ≡ d = cc in
    let rest : a ++ 32 ∷ b ≡ x ++ 32 ∷ y = cc in
    let parts = one_cut a b x y (λ k within. no_a (suc k) (omega arith)) (λ k within. no_x (suc k) (omega arith)) rest in
    (ap (λ (h : ℕ). h ∷ a) first ∙ ap (λ (t : List ℕ). d ∷ t) parts.0, parts.1)

-- what has a blank behind a part isn't free of blanks
pub no_cut : (a b : List ℕ) → HasNoBlank (a ++ 32 ∷ b) → ⊥
no_cut [] b none = none 0 (omega arith) refl
no_cut (c ∷ a) b none = no_cut a b (λ k within. none (suc k) (omega arith))

blank_push : (text : List ℕ) (c : ℕ) → HasNoBlank text → c ≢ 32 → HasNoBlank (text ++ c ∷ [])
blank_push [] c clear not zero within = not
blank_push [] c clear not (suc k) within = absurd (omega arith)
blank_push (x ∷ text) c clear not zero within = clear 0 (omega arith)
blank_push (x ∷ text) c clear not (suc k) within = blank_push text c (λ k within. clear (suc k) (omega arith)) not k (omega arith)

pub slot-no_blank : (slot : ℕ) → IsSlot slot → HasNoBlank (decimal slot)
slot-no_blank slot is = decimal_by_steps (λ n ds. HasNoBlank ds)
    (λ n small. blank_push [] (48 + n) (λ k within. absurd (omega arith)) (λ same. omega arith))
    (λ n ds large clear. blank_push ds (48 + n % 10) clear (λ same. omega arith)) slot (omega (arith, is.1))

hex_no_blank : (d : ℕ) → hex_digit lower d ≢ 32
hex_no_blank d = grind (arith, nat_tests)

either_no_blank : (test : Bool) (d : ℕ) → cond test hyphen (hex_digit lower d) ≢ 32
either_no_blank true d same = omega arith
either_no_blank false d same = hex_no_blank d same

pub id_text-no_blank : (id : ℕ) → HasNoBlank (text_of id)
unfolding text_of
id_text-no_blank id k within same =
    let xs = to_be_bytes w128 id in
    let f : ℕ → ℕ = λ k. cond (is_hyphen_place k) hyphen (hex_digit lower (nibble xs (digit_place k))) in
    let inside : k < 36 = omega (arith, within, by_index_length 36 f) in
    either_no_blank (is_hyphen_place k) (nibble xs (digit_place k)) (sym (by_index_at 36 f k 0 inside) ∙ same)

true_or_false : true ≡ false → ⊥
true_or_false same = cc

or_true : (b : Bool) → (b || true) ≡ true
or_true true = refl
or_true false = refl

not_blank : (place c : ℕ) → (eqb place 64 || not (may_stand place c)) ≡ false → c ≢ 32
not_blank place c is same =
    let blank : (eqb place 64 || not (may_stand place 32)) ≡ false = subst (λ (n : ℕ). (eqb place 64 || not (may_stand place n)) ≡ false) same is in
    true_or_false (sym (or_true (eqb place 64)) ∙ blank)

none_in : (place c : ℕ) (rest : List ℕ) (found : Option ℕ) → (found ≡ None → HasNoBlank rest) → (test : Bool) → (eqb place 64 || not (may_stand place c)) ≡ test → cond test (Some place) found ≡ None → HasNoBlank (c ∷ rest)
none_in place c rest found clear true is none k within = absurd (cc)
none_in place c rest found clear false is none zero within = not_blank place c is
none_in place c rest found clear false is none (suc k) within = clear none k (omega arith)

clear_from : (place : ℕ) (text : List ℕ) → name_stop place text ≡ None → HasNoBlank text
unfolding name_stop
clear_from place [] none = λ k within. absurd (omega arith)
clear_from place (c ∷ rest) none = none_in place c rest (name_stop (place + 1) rest) (clear_from (place + 1) rest) (eqb place 64 || not (may_stand place c)) refl none

pub name-no_blank : (name : List ℕ) → name_fault name ≡ None → HasNoBlank name
unfolding name_fault
name-no_blank [] none = absurd (cc)
name-no_blank (c ∷ rest) none = clear_from 0 (c ∷ rest) none

-- the text of a source by its parts
module _ (source : SourceInfo) (sound : IsSource source) where
  abbrev names_text : List ℕ
  names_text = source.name ++ 32 ∷ source.uri

  abbrev id_and_names_text : List ℕ
  id_and_names_text = text_of source.id.0 ++ 32 ∷ names_text

  pub slot_part : (text slot rest : List ℕ) → text ≡ slot ++ 32 ∷ rest → HasNoBlank slot → source_text source ≡ text → (decimal source.slot ≡ slot) × (id_and_names_text ≡ rest)
  slot_part text slot rest parts clear is = one_cut (decimal source.slot) id_and_names_text slot rest (slot-no_blank source.slot sound.slot) clear (is ∙ parts)

  pub id_part : (text id rest : List ℕ) → text ≡ id ++ 32 ∷ rest → HasNoBlank id → id_and_names_text ≡ text → (text_of source.id.0 ≡ id) × (names_text ≡ rest)
  id_part text id rest parts clear is = one_cut (text_of source.id.0) names_text id rest (id_text-no_blank source.id.0) clear (is ∙ parts)

  pub name_part : (text name uri : List ℕ) → text ≡ name ++ 32 ∷ uri → HasNoBlank name → names_text ≡ text → (source.name ≡ name) × (source.uri ≡ uri)
  name_part text name uri parts clear is = one_cut source.name source.uri name uri (name-no_blank source.name sound.name.1) clear (is ∙ parts)

  pub no_slot_part : (text : List ℕ) → HasNoBlank text → source_text source ≡ text → ⊥
  no_slot_part text clear is = no_cut (decimal source.slot) id_and_names_text (subst HasNoBlank (sym is) clear)

  pub no_id_part : (text : List ℕ) → HasNoBlank text → id_and_names_text ≡ text → ⊥
  no_id_part text clear is = no_cut (text_of source.id.0) names_text (subst HasNoBlank (sym is) clear)

  pub no_name_part : (text : List ℕ) → HasNoBlank text → names_text ≡ text → ⊥
  no_name_part text clear is = no_cut source.name source.uri (subst HasNoBlank (sym is) clear)
