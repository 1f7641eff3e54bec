-- A language tag, character by character.
use Rattle.std.proofs.Common.{◌≡◌, ℕ, ◌<◌, Bool, true, false, cond, ◌&&◌, List, [], ◌∷◌, ◌++◌, length, Option, Some, None, nat_eq, nat_lt, refl, sym, ap, subst, ◌∙◌, append_assoc, arith, eq-eqb}
use Rattle.std.specs.List.{list_all, flat_map}
use Rattle.std.specs.Char.{is_ascii_alphanumeric}
use Rattle.std.specs.Option.{MatchOption}
use Rattle.std.specs.Str.{encode_utf8_all, chars, IsUtf8}
use Rattle.std.proofs.lemmas.Bool.{and_parts, false≢true, eqb-true, ltb-true, ne_eqb}
use Rattle.std.proofs.lemmas.Bool.Decides.{nat_tests}
use Rattle.std.proofs.lemmas.List.{append-nil}
use Rattle.std.proofs.lemmas.Str.{encodes-chars, scalars-chars, encode_ascii}
use Rattle.rdf_terms.specs.Fit.{Begins, FirstMisfit, StopsFitting}
use Rattle.rdf_terms.specs.Tag.{AreWords, TagForm, is_tag_char}
use Rattle.rdf_terms.proofs.Misfits.{misfit, spotted}

abbrev pub dashed : List (List ℕ) → List ℕ
dashed parts = flat_map (λ part. 45 ∷ part) parts

-- the rest of a tag: `first` says that no dash came yet, `some` that the present part has a character
abbrev pub spells_tag : Bool → Bool → List ℕ → Bool
spells_tag first some [] = some
spells_tag first some (c ∷ cs) = cond (is_tag_char first c) (spells_tag first true cs) (some && nat_eq c 45 && spells_tag false false cs)

-- ---- that is the form of a tag

pub record Rest (first some : Bool) (cs : List ℕ) : Type 0 where
  pub word : List ℕ
  pub parts : List (List ℕ)
  pub text : cs ≡ word ++ dashed parts
  pub letters : list_all (is_tag_char first) word ≡ true
  pub enough : some ≡ false → 0 < length word
  pub others : AreWords is_ascii_alphanumeric parts

rest_of : (first some : Bool) (cs : List ℕ) → spells_tag first some cs ≡ true → Rest first some cs
rest_of first true [] e = record { word = []; parts = []; text = refl; letters = refl; enough = λ bad. absurd (false≢true (sym bad)); others = tt }
rest_of first false [] e = absurd (false≢true e)
rest_of first some (c ∷ cs) e = by (is_tag_char first c) refl some e (rest_of first true cs) (rest_of false false cs)
  where
    by : (b : Bool) → is_tag_char first c ≡ b → (some : Bool) → cond b (spells_tag first true cs) (some && nat_eq c 45 && spells_tag false false cs) ≡ true
        → (spells_tag first true cs ≡ true → Rest first true cs) → (spells_tag false false cs ≡ true → Rest false false cs) → Rest first some (c ∷ cs)
    by true is some e letters dash =
        let r = letters e in
        record { word = c ∷ r.word; parts = r.parts; text = ap (λ (t : List ℕ). c ∷ t) r.text; letters = rw (is, r.letters) refl; enough = λ _. omega arith; others = r.others }
    by false is false e letters dash = absurd (false≢true e)
    by false is true e letters dash =
        let p = and_parts (nat_eq c 45) (spells_tag false false cs) e in
        let r = dash p.1 in
        record {
          word = [];
          parts = r.word ∷ r.parts;
          text = ap (λ (d : ℕ). d ∷ cs) (eqb-true c 45 p.0) ∙ ap (λ (t : List ℕ). 45 ∷ t) r.text;
          letters = refl;
          enough = λ bad. absurd (false≢true (sym bad));
          others = ((r.enough refl, r.letters), r.others);
        }

pub form_of : (cs : List ℕ) → spells_tag true false cs ≡ true → TagForm cs
form_of cs e = let r = rest_of true false cs e in (r.word, r.parts, (r.enough refl, r.letters), r.others, r.text)

dash_none : (first : Bool) → is_tag_char first 45 ≡ false
dash_none true = refl
dash_none false = refl

word_on : (first some : Bool) (word more : List ℕ) → list_all (is_tag_char first) word ≡ true → (some ≡ false → 0 < length word) → spells_tag first true more ≡ true → spells_tag first some (word ++ more) ≡ true
word_on first true [] more all enough e = e
word_on first false [] more all enough e = absurd (let none : 0 < 0 = enough refl in omega arith)
word_on first some (c ∷ word) more all enough e =
    let p = and_parts (is_tag_char first c) (list_all (is_tag_char first) word) all in
    let others = word_on first true word more p.1 (λ bad. absurd (false≢true (sym bad))) e in
    rw (p.0, others) refl

parts_on : (first : Bool) (parts : List (List ℕ)) → AreWords is_ascii_alphanumeric parts → spells_tag first true (dashed parts) ≡ true
parts_on first [] w = refl
parts_on first (part ∷ parts) w =
    let later : spells_tag false false (part ++ dashed parts) ≡ true = word_on false false part (dashed parts) w.0.1 (λ _. w.0.0) (parts_on false parts w.1) in
    rw (dash_none first, later) refl

pub spells_of : (cs : List ℕ) → TagForm cs → spells_tag true false cs ≡ true
spells_of cs f = ap (spells_tag true false) f.4 ∙ word_on true false f.0 (dashed f.1) f.2.1 (λ _. f.2.0) (parts_on true f.1 f.3)

-- ---- where a text stops being a tag

abbrev step_by : Bool → Bool → Bool → Bool → Option (Bool × Bool)
step_by first letter some dash = cond letter (Some (first, true)) (cond (some && dash) (Some (false, false)) None)

-- the state says, as above, whether no dash came yet and whether the present part has a character
abbrev pub step : Bool × Bool → ℕ → Option (Bool × Bool)
step s c = step_by s.0 (is_tag_char s.0 c) s.1 (nat_eq c 45)

pub step_letter : (first some : Bool) (c : ℕ) → is_tag_char first c ≡ true → step (first, some) c ≡ Some (first, true)
step_letter first some c e = ap (λ (b : Bool). step_by first b some (nat_eq c 45)) e

pub step_dash : (first some : Bool) (c : ℕ) → is_tag_char first c ≡ false → some ≡ true → c ≡ 45 → step (first, some) c ≡ Some (false, false)
step_dash first some c e s dash = rw (e, s, eq-eqb c 45 dash) refl

pub step_none : (first some : Bool) (c : ℕ) → is_tag_char first c ≡ false → some ≡ false → step (first, some) c ≡ None
step_none first some c e s = rw (e, s) refl

pub step_other : (first some : Bool) (c : ℕ) → is_tag_char first c ≡ false → (c ≡ 45 → ⊥) → step (first, some) c ≡ None
step_other first some c e other = by some
  where
    by : (some : Bool) → step (first, some) c ≡ None
    by true = rw (e, ne_eqb c 45 other) refl
    by false = rw e refl

abbrev pub ends : Bool × Bool → Bool
ends s = s.1

-- what follows a front decides on the whole
abbrev Front : Bool × Bool → List ℕ → Type 0
Front s front = (more : List ℕ) → spells_tag true false (front ++ more) ≡ spells_tag s.0 s.1 more

begins : (s : Bool × Bool) (front : List ℕ) → Front s front → Begins TagForm front
begins s front f = (97 ∷ [], form_of (front ++ 97 ∷ []) (f (97 ∷ []) ∙ by s.0 s.1))
  where
    by : (first some : Bool) → spells_tag first some (97 ∷ []) ≡ true
    by true some = refl
    by false some = refl

-- one character more
taken : (s t : Bool × Bool) (c : ℕ) (more : List ℕ) → step s c ≡ Some t → spells_tag s.0 s.1 (c ∷ more) ≡ spells_tag t.0 t.1 more
taken s t c more e = by (is_tag_char s.0 c) (s.1) (nat_eq c 45) s.0 e
  where
    by : (b some dash first : Bool) → step_by first b some dash ≡ Some t
        → cond b (spells_tag first true more) (some && dash && spells_tag false false more) ≡ spells_tag t.0 t.1 more
    by true some dash first e = let same : (first, true) ≡ t = cc in ap (λ (v : Bool × Bool). spells_tag v.0 v.1 more) same
    by false true true first e = let same : (false, false) ≡ t = cc in ap (λ (v : Bool × Bool). spells_tag v.0 v.1 more) same
    by false true false first e = absurd cc
    by false false dash first e = absurd cc

refused : (s : Bool × Bool) (c : ℕ) (more : List ℕ) → step s c ≡ None → spells_tag s.0 s.1 (c ∷ more) ≡ false
refused s c more e = by (is_tag_char s.0 c) (s.1) (nat_eq c 45) s.0 e
  where
    by : (b some dash first : Bool) → step_by first b some dash ≡ None → cond b (spells_tag first true more) (some && dash && spells_tag false false more) ≡ false
    by true some dash first e = absurd cc
    by false true true first e = absurd cc
    by false true false first e = refl
    by false false dash first e = refl

goes : (s t : Bool × Bool) (front : List ℕ) (c : ℕ) → Front s front → step s c ≡ Some t → Front t (front ++ c ∷ [])
goes s t front c f e more = ap (spells_tag true false) (append_assoc front (c ∷ []) more) ∙ f (c ∷ more) ∙ taken s t c more e

stops : (s : Bool × Bool) (front : List ℕ) (c : ℕ) → Front s front → step s c ≡ None → Begins TagForm (front ++ c ∷ []) → ⊥
stops s front c f e b =
    let is = spells_of ((front ++ c ∷ []) ++ b.0) b.1 in
    false≢true (sym (ap (spells_tag true false) (append_assoc front (c ∷ []) b.0) ∙ f (c ∷ b.0) ∙ refused s c b.0 e) ∙ is)

here : (s : Bool × Bool) (front : List ℕ) → Front s front → spells_tag true false front ≡ s.1
here s front f = ap (spells_tag true false) (sym (append-nil front)) ∙ f []

whole : (s : Bool × Bool) (front : List ℕ) → Front s front → ends s ≡ true → TagForm front
whole s front f e = form_of front (here s front f ∙ e)

cut : (s : Bool × Bool) (front : List ℕ) → Front s front → ends s ≡ false → TagForm front → ⊥
cut s front f e form = false≢true (sym (here s front f ∙ e) ∙ spells_of front form)

-- ---- a tag has ASCII characters only

spells_ascii : (first some : Bool) (cs : List ℕ) → spells_tag first some cs ≡ true → list_all (λ c. nat_lt c 128) cs ≡ true
spells_ascii first some [] e = refl
spells_ascii first some (c ∷ cs) e = by (is_tag_char first c) refl some (nat_eq c 45) refl e (spells_ascii first true cs) (spells_ascii false false cs)
  where
    letter : (first : Bool) → is_tag_char first c ≡ true → nat_lt c 128 ≡ true
    letter true e = grind (arith, nat_tests)
    letter false e = grind (arith, nat_tests)

    sign : nat_eq c 45 ≡ true → nat_lt c 128 ≡ true
    sign e = grind (arith, nat_tests)

    by : (b : Bool) → is_tag_char first c ≡ b → (some dash : Bool) → nat_eq c 45 ≡ dash → cond b (spells_tag first true cs) (some && dash && spells_tag false false cs) ≡ true
        → (spells_tag first true cs ≡ true → list_all (λ c. nat_lt c 128) cs ≡ true) → (spells_tag false false cs ≡ true → list_all (λ c. nat_lt c 128) cs ≡ true)
        → list_all (λ c. nat_lt c 128) (c ∷ cs) ≡ true
    by true is some dash d e one two = rw (letter first is, one e) refl
    by false is true true d e one two = rw (sign d, two e) refl
    by false is true false d e one two = absurd (false≢true e)
    by false is false dash d e one two = absurd (false≢true e)

same_bytes : (cs : List ℕ) → list_all (λ c. nat_lt c 128) cs ≡ true → encode_utf8_all cs ≡ cs
same_bytes [] e = refl
same_bytes (c ∷ cs) e =
    let p = and_parts (nat_lt c 128) (list_all (λ c. nat_lt c 128) cs) e in
    ap (λ (t : List ℕ). t ++ encode_utf8_all cs) (encode_ascii c (ltb-true c 128 p.0)) ∙ ap (λ (t : List ℕ). c ∷ t) (same_bytes cs p.1)

pub tag_bytes : (cs : List ℕ) → TagForm cs → encode_utf8_all cs ≡ cs
tag_bytes cs f = same_bytes cs (spells_ascii true false cs (spells_of cs f))

-- ---- a text

abbrev pub tag_misfit : Bool × Bool → ℕ → List ℕ → Option ℕ
tag_misfit s at cs = misfit step ends s at cs

pub tag_decided : (text : List ℕ) (o : Option ℕ) → IsUtf8 text → tag_misfit (true, false) 0 (chars text) ≡ o → MatchOption o (TagForm text) (StopsFitting TagForm text)
tag_decided text o u e = by o (subst (λ (r : Option ℕ). MatchOption r (TagForm cs) (FirstMisfit TagForm cs)) e known)
  where
    cs : List ℕ
    cs = chars text

    known : MatchOption (tag_misfit (true, false) 0 cs) (TagForm cs) (FirstMisfit TagForm cs)
    known = spotted step ends TagForm Front begins goes stops whole cut (true, false) [] cs 0 (λ more. refl) refl

    by : (o : Option ℕ) → MatchOption o (TagForm cs) (FirstMisfit TagForm cs) → MatchOption o (TagForm text) (StopsFitting TagForm text)
    by None is = subst TagForm (sym (tag_bytes cs is) ∙ encodes-chars text u) is
    by (Some at) is = (cs, scalars-chars text u, sym (encodes-chars text u), is)
