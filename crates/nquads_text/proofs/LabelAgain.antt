-- The characters of a label are read as one, whatever follows.
use Rattle.std.proofs.Common.{◌≡◌, ℕ, ◌+◌, ◌-◌, ◌<◌, ◌≤◌, Bool, true, false, ◌||◌, List, [], ◌∷◌, ◌++◌, length, take, drop, Ok, nat_eq, refl, sym, ap, ◌∙◌, ◌⊎◌, inl, inr, ⊎_elim, arith, append_assoc}
use Rattle.std.specs.Str.{encode_utf8_all}
use Rattle.std.specs.Char.{encode_utf8, IsScalar}
use Rattle.std.proofs.lemmas.Bool.{and_parts, ne_eqb, eqb-true}
use Rattle.std.proofs.lemmas.List.{append-nil, length-append, take_at, drop_at}
use Rattle.std.proofs.lemmas.Str.{encode_ascii, length-encode, len_utf8_bounds}
use lib.Utf8.{scalar, scalars}
use Rattle.rdf_terms.specs.Names.{is_name_char, begins_name}
use Rattle.rdf_terms.specs.Label.{AreInner, IsLabel, LabelChars, is_inner}
use Rattle.nquads_text.specs.Reading.{char_at}
use Rattle.nquads_text.specs.Terms.{name_len, name_at, label_at}
use Rattle.nquads_text.proofs.Fronts.{char_at-ascii, char_again}
use Rattle.nquads_text.proofs.NameRuns.{name-char, name-dot}

pub low_inner : (c : ℕ) → is_inner c ≡ true → nat_eq c 46 ≡ true ⊎ (is_name_char c ≡ true)
low_inner c e = inner_by (nat_eq c 46) (is_name_char c) e
  where
    inner_by : (dot name : Bool) → (dot || name) ≡ true → (dot ≡ true) ⊎ (name ≡ true)
    inner_by true name e = inl refl
    inner_by false name e = inr e

-- one character in front
module _ (c : ℕ) (more : List ℕ) (is : IsScalar c) where
  abbrev whole : List ℕ
  whole = encode_utf8 c ++ more

  there : drop (length (encode_utf8 c)) whole ≡ more
  there = drop_at (encode_utf8 c) more (length (encode_utf8 c)) refl

  some : 0 < length (encode_utf8 c)
  some = rw (length-encode c) (len_utf8_bounds c).0

  within : length (encode_utf8 c) ≤ length whole
  within = omega (arith, length-append (encode_utf8 c) more)

  read : char_at whole ≡ Ok (c, drop (length (encode_utf8 c)) whole)
  read = char_again c more is ∙ ap (λ (t : List ℕ). Ok (c, t)) (sym there)

  name_front : is_name_char c ≡ true → name_len 0 whole ≡ length (encode_utf8 c) + name_len 0 more
  name_front named = name-char whole c (length (encode_utf8 c)) some within read named ∙ ap (λ (t : List ℕ). length (encode_utf8 c) + name_len 0 t) there

dot_front : (more : List ℕ) → 0 < name_len 0 more → name_len 0 (46 ∷ more) ≡ 1 + name_len 0 more
dot_front more pos =
    let e : nat_eq (name_len 0 more) 0 ≡ false = ne_eqb (name_len 0 more) 0 (λ z. omega (arith, z)) in
    name-dot (46 ∷ more) 1 (omega arith) (omega arith) (char_at-ascii 46 more (omega arith)) ∙ rw e refl

pub inner_again : (cs : List ℕ) (after : List ℕ) → scalars cs ≡ true → AreInner cs → name_len 0 (encode_utf8_all cs ++ after) ≡ length (encode_utf8_all cs) + name_len 0 after
inner_again [] after s i = omega arith
inner_again (c ∷ []) after s i =
    let t = and_parts (scalar c) true s in
    let whole : encode_utf8_all (c ∷ []) ++ after ≡ encode_utf8 c ++ after = ap (λ (b : List ℕ). b ++ after) (append-nil (encode_utf8 c)) in
    ap (name_len 0) whole ∙ name_front c after t.0 i ∙ ap (λ (b : List ℕ). length b + name_len 0 after) (sym (append-nil (encode_utf8 c)))
inner_again (c ∷ d ∷ cs) after s i =
    let t = and_parts (scalar c) (scalars (d ∷ cs)) s in
    let others = inner_again (d ∷ cs) after t.1 i.1 in
    let more : List ℕ = encode_utf8_all (d ∷ cs) ++ after in
    let split : encode_utf8_all (c ∷ d ∷ cs) ++ after ≡ encode_utf8 c ++ more = append_assoc (encode_utf8 c) (encode_utf8_all (d ∷ cs)) after in
    let len : length (encode_utf8_all (c ∷ d ∷ cs)) ≡ length (encode_utf8 c) + length (encode_utf8_all (d ∷ cs)) = length-append (encode_utf8 c) (encode_utf8_all (d ∷ cs)) in
    let least : 0 < length (encode_utf8_all (d ∷ cs)) = omega (arith, length-append (encode_utf8 d) (encode_utf8_all cs), length-encode d, (len_utf8_bounds d).0) in
    let front : name_len 0 (encode_utf8 c ++ more) ≡ length (encode_utf8 c) + name_len 0 more =
    ⊎_elim
    (λ dot.
    let one : encode_utf8 c ≡ 46 ∷ [] = ap encode_utf8 (eqb-true c 46 dot) ∙ encode_ascii 46 (omega arith) in
    ap (λ (b : List ℕ). name_len 0 (b ++ more)) one ∙ dot_front more (omega (arith, others, least)) ∙ ap (λ (b : List ℕ). length b + name_len 0 more) (sym one))
    (λ named. name_front c more t.0 named)
    (low_inner c i.0) in
    ap (name_len 0) split ∙ front ∙ omega (arith, others, len)

name_again : (start label rest : List ℕ) → IsLabel label → name_len 0 rest ≡ 0 → name_at start (label ++ rest) ≡ Ok (label, rest)
unfolding IsLabel name_at
name_again start label rest l e = by l.0 l.1 l.2 l.3
  where
    by : (chars : List ℕ) → scalars chars ≡ true → label ≡ encode_utf8_all chars → LabelChars chars → name_at start (label ++ rest) ≡ Ok (label, rest)
    by [] s v none = absurd none
    by (first ∷ cs) s v is =
        let t = and_parts (scalar first) (scalars cs) s in
        let after : List ℕ = encode_utf8_all cs ++ rest in
        let split : label ++ rest ≡ encode_utf8 first ++ after = ap (λ (b : List ℕ). b ++ rest) v ∙ append_assoc (encode_utf8 first) (encode_utf8_all cs) rest in
        let inner = inner_again cs rest t.1 is.1 in
        let l1 = length-append (encode_utf8 first) after in
        let l2 : length label ≡ length (encode_utf8 first) + length (encode_utf8_all cs) = ap length v ∙ length-append (encode_utf8 first) (encode_utf8_all cs) in
        let size : (length (encode_utf8 first ++ after) - length after) + name_len 0 after ≡ length label = omega (arith, inner, e, l1, l2) in
        let front : take (length label) (encode_utf8 first ++ after) ≡ label = ap (take (length label)) (sym split) ∙ take_at label rest (length label) refl in
        let back : drop (length label) (encode_utf8 first ++ after) ≡ rest = ap (drop (length label)) (sym split) ∙ drop_at label rest (length label) refl in
        let begins : begins_name first ≡ true = is.0 in
        ap (name_at start) split ∙ rw (char_again first after t.0, begins, size, front, back) refl

pub label_again : (start label rest : List ℕ) → IsLabel label → name_len 0 rest ≡ 0 → label_at start (58 ∷ (label ++ rest)) ≡ Ok (label, rest)
unfolding label_at
label_again start label rest l e = rw (char_at-ascii 58 (label ++ rest) (omega arith)) (name_again start label rest l e)
