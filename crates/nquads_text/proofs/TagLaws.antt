-- What the reader takes behind `@` is a language tag, and its value is that in lower case.
use Rattle.std.proofs.Common.{◌≡◌, ℕ, ◌<◌, Bool, true, false, cond, List, [], ◌∷◌, ◌++◌, length, Ok, Err, nat_eq, refl, sym, ap, subst, ◌∙◌, ⊎_elim, arith}
use Rattle.std.specs.List.{list_all}
use Rattle.std.specs.Char.{is_ascii_alphanumeric, to_ascii_lowercase}
use Rattle.std.proofs.lemmas.Bool.{eqb-true}
use Rattle.rdf_terms.specs.Tag.{AreWords, TagForm, lower, IsTag}
use Rattle.rdf_terms.proofs.Tags.{dashed}
use Rattle.rdf_terms.proofs.LowerTags.{lower_is_tag}
use Rattle.nquads_text.specs.declared.fault.TextKind.TheVariants.{Truncated, BadLang}
use Rattle.nquads_text.specs.Fault.{◌>>=◌}
use Rattle.nquads_text.specs.Reading.{char_at, with_front}
use Rattle.nquads_text.specs.Terms.{tag_at, is_tag_byte}
use Rattle.nquads_text.proofs.Steps.{bind_ok, chosen, ok_is, not_ok}

-- the rest of a tag, from some byte of a part on
pub record Tail (first some : Bool) (rest : List ℕ) (y : List ℕ × List ℕ) : Type 0 where
  pub word : List ℕ
  pub parts : List (List ℕ)
  pub text : rest ≡ (word ++ dashed parts) ++ y.1
  pub value : y.0 ≡ lower (word ++ dashed parts)
  pub letters : list_all (is_tag_byte first) word ≡ true
  pub enough : some ≡ false → 0 < length word
  pub others : AreWords is_ascii_alphanumeric parts

no_tag : (b : ℕ) (start rest : List ℕ) (y : List ℕ × List ℕ) → (char_at rest >>= λ c. Err (BadLang, start)) ≡ Ok y → ⊥
no_tag b start rest y e =
    let p = bind_ok (char_at rest) (λ (c : ℕ × List ℕ). Err (BadLang, start)) y e in not_ok y (BadLang, start) p.2

pub tag_taken : (first some : Bool) (start rest : List ℕ) (y : List ℕ × List ℕ) → tag_at first some start rest ≡ Ok y → Tail first some rest y
unfolding tag_at
tag_taken first true start [] y e =
    subst (λ (v : List ℕ × List ℕ). Tail first true [] v) (ok_is ([], []) y e)
    (record { word = []; parts = []; text = refl; value = refl; letters = refl; enough = λ bad. absurd cc; others = tt })
tag_taken first false start [] y e = absurd (not_ok y (Truncated, []) e)
tag_taken first some start (b ∷ rest) y e =
    ⊎_elim
    (λ letter.
    let p = bind_ok (tag_at first true start rest) (λ (x : List ℕ × List ℕ). Ok ((to_ascii_lowercase b ∷ []) ++ x.0, x.1)) y letter.1 in
    let t = tag_taken first true start rest p.0 p.1 in
    subst (λ (v : List ℕ × List ℕ). Tail first some (b ∷ rest) v) (ok_is ((to_ascii_lowercase b ∷ []) ++ p.0.0, p.0.1) y p.2)
    (record {
      word = b ∷ t.word;
      parts = t.parts;
      text = ap (λ (u : List ℕ). b ∷ u) t.text;
      value = ap (λ (u : List ℕ). to_ascii_lowercase b ∷ u) t.value;
      letters = rw (letter.0, t.letters) refl;
      enough = λ _. omega arith;
      others = t.others;
    }))
    (λ other. by some e (λ p found. tag_taken false false start rest p found) other)
    (chosen (is_tag_byte first b) (with_front (to_ascii_lowercase b ∷ []) (tag_at first true start rest))
    (cond some (cond (nat_eq b 45) (with_front (45 ∷ []) (tag_at false false start rest)) (Ok ([], b ∷ rest))) (char_at (b ∷ rest) >>= λ c. Err (BadLang, start))) (Ok y) (same some e))
  where
    same : (some : Bool) → tag_at first some start (b ∷ rest) ≡ Ok y → cond (is_tag_byte first b) (with_front (to_ascii_lowercase b ∷ []) (tag_at first true start rest))
        (cond some (cond (nat_eq b 45) (with_front (45 ∷ []) (tag_at false false start rest)) (Ok ([], b ∷ rest))) (char_at (b ∷ rest) >>= λ c. Err (BadLang, start))) ≡ Ok y
    same true e = e
    same false e = e

    by : (some : Bool) → tag_at first some start (b ∷ rest) ≡ Ok y → ((p : List ℕ × List ℕ) → tag_at false false start rest ≡ Ok p → Tail false false rest p)
        → (is_tag_byte first b ≡ false) × (cond some (cond (nat_eq b 45) (with_front (45 ∷ []) (tag_at false false start rest)) (Ok ([], b ∷ rest))) (char_at (b ∷ rest) >>= λ c. Err (BadLang, start)) ≡ Ok y)
        → Tail first some (b ∷ rest) y
    by false e others other = absurd (no_tag b start (b ∷ rest) y other.1)
    by true e others other =
        ⊎_elim
        (λ dash.
        let p = bind_ok (tag_at false false start rest) (λ (x : List ℕ × List ℕ). Ok ((45 ∷ []) ++ x.0, x.1)) y dash.1 in
        let t = others p.0 p.1 in
        let is_dash : b ≡ 45 = eqb-true b 45 dash.0 in
        subst (λ (v : List ℕ × List ℕ). Tail first true (b ∷ rest) v) (ok_is ((45 ∷ []) ++ p.0.0, p.0.1) y p.2)
        (record {
          word = [];
          parts = t.word ∷ t.parts;
          text = ap (λ (u : List ℕ). b ∷ u) t.text ∙ ap (λ (d : ℕ). d ∷ ((t.word ++ dashed t.parts) ++ p.0.1)) is_dash;
          value = ap (λ (u : List ℕ). 45 ∷ u) t.value;
          letters = refl;
          enough = λ bad. absurd cc;
          others = ((t.enough refl, t.letters), t.others);
        }))
        (λ stop.
        subst (λ (v : List ℕ × List ℕ). Tail first true (b ∷ rest) v) (ok_is ([], b ∷ rest) y stop.1)
        (record { word = []; parts = []; text = refl; value = refl; letters = refl; enough = λ bad. absurd cc; others = tt }))
        (chosen (nat_eq b 45) (with_front (45 ∷ []) (tag_at false false start rest)) (Ok ([], b ∷ rest)) (Ok y) other.1)

-- what is read behind an `@`: a tag stands there, and the value is it in lower case
pub tag_found : (start rest value after : List ℕ) → tag_at true false start rest ≡ Ok (value, after) → (tag : List ℕ) × TagForm tag × (rest ≡ tag ++ after) × (value ≡ lower tag)
tag_found start rest value after e =
    let t = tag_taken true false start rest (value, after) e in
    (t.word ++ dashed t.parts, (t.word, t.parts, (t.enough refl, t.letters), t.others, refl), t.text, t.value)

pub read_is_tag : (start rest value after : List ℕ) → tag_at true false start rest ≡ Ok (value, after) → IsTag value
read_is_tag start rest value after e = let f = tag_found start rest value after e in subst IsTag (sym f.3) (lower_is_tag f.0 f.1)
