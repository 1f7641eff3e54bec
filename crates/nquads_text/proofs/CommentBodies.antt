-- A comment's body ends where its line does, or where bytes are no character.
use Rattle.std.proofs.Common.{◌≡◌, ℕ, ◌+◌, ◌-◌, ◌<◌, ◌≤◌, Bool, true, false, List, ◌++◌, length, take, drop, get_or, Option, Some, None, IsTrue, not, inl, inr, refl, sym, ap, subst, ◌∙◌, arith, take-add}
use Rattle.std.specs.Char.{encode_utf8}
use Rattle.std.specs.List.{list_all, slice_range}
use Rattle.std.specs.Option.{unwrap_or}
use Rattle.std.specs.Str.{IsUtf8, IsValidUpTo}
use Rattle.std.proofs.lemmas.Bool.{cases_lt}
use Rattle.std.proofs.lemmas.Bool.Decides.{nat_tests}
use Rattle.std.proofs.lemmas.List.{drop-drop, get_or-drop, get_or-take, length-append, length-drop, length-take-le, take-take, take_at, take_rest}
use Rattle.std.proofs.lemmas.List.Elements.{All-from_get_or}
use Rattle.std.proofs.lemmas.List.Sums.{list_all-from_AllPass}
use Rattle.std.proofs.lemmas.Str.{inside_one, length-encode, len_utf8_ascii, len_utf8_bounds, IsUtf8-append, IsUtf8-encode}
use Rattle.memchr.specs.Find.{IsFirstByte, is_byte2}
use Rattle.nquads_text.specs.Faults.{IsIllFormed}
use Rattle.nquads_text.specs.Grammar.{CharAt, is_line_end}

-- the line ends at this place of the rest, or the rest does
record LineEnds (rest : List ℕ) (end : ℕ) : Type 0 where
  within : end ≤ length rest
  before : (k : ℕ) → k < end → is_line_end (get_or rest k 0) ≡ true → ⊥
  there : end < length rest → is_line_end (get_or rest end 0) ≡ true

line_found : (rest : List ℕ) (r : Option ℕ) (end : ℕ) → IsFirstByte (is_byte2 10 13) rest r → end ≡ unwrap_or r (length rest) → LineEnds rest end
line_found rest None end none e = record { within = omega arith; before = λ k lt. none k (omega arith) (omega arith); there = λ lt. absurd (omega arith) }
line_found rest (Some k) end some e =
    record {
      within = omega (arith, some.0.high);
      before = λ j lt. some.0.before j (omega arith) (omega arith);
      there = λ lt. ap (λ (i : ℕ). is_line_end (get_or rest i 0)) e ∙ some.1;
    }

not_ended : (b : Bool) → (b ≡ true → ⊥) → not b ≡ true
not_ended true e = absurd (e refl)
not_ended false e = refl

line_inside : (rest : List ℕ) (end n : ℕ) → LineEnds rest end → n ≤ end → IsTrue (list_all (λ b. not (is_line_end b)) (take n rest))
line_inside rest end n ends le =
    let size : length (take n rest) ≡ n = length-take-le n rest (omega (arith, ends.within)) in
    list_all-from_AllPass (λ b. not (is_line_end b)) (take n rest)
    (All-from_get_or (λ b. not (is_line_end b) ≡ true) (take n rest) 0 (λ i lt. each i (omega arith)))
  where
    each : (i : ℕ) → i < n → not (is_line_end (get_or (take n rest) i 0)) ≡ true
    each i lt = ap (λ (b : ℕ). not (is_line_end b)) (get_or-take n rest i 0 lt) ∙ not_ended (is_line_end (get_or rest i 0)) (ends.before i (omega arith))

pub line_end_low : (b : ℕ) → is_line_end b ≡ true → b < 128
line_end_low b e = grind (arith, nat_tests)

-- a character would make the valid front longer, or would have the line's end inside
none_stands : (rest : List ℕ) (end n : ℕ) → LineEnds rest end → IsValidUpTo (take end rest) n → (c : ℕ) (after : List ℕ) → CharAt (drop n rest) c after → ⊥
none_stands rest end n ends valid c after at =
    let size : length (take end rest) ≡ end = length-take-le end rest ends.within in
    let short : n < end = omega (arith, valid.short) in
    elim (cases_lt end (n + length (encode_utf8 c))) [
      | inl over ↦ over_end short over
      | inr fits ↦ longer short fits
    ]
  where
    longer : n < end → n + length (encode_utf8 c) ≤ end → ⊥
    longer short fits =
        let some : 0 < length (encode_utf8 c) = rw (length-encode c) (len_utf8_bounds c).0 in
        let front : take n (take end rest) ≡ take n rest = take-take n end rest (omega arith) in
        let same : take (n + length (encode_utf8 c)) (take end rest) ≡ take n (take end rest) ++ encode_utf8 c =
        take-take (n + length (encode_utf8 c)) end rest fits ∙ take-add n (length (encode_utf8 c)) rest
        ∙ ap (λ (t : List ℕ). take n rest ++ take (length (encode_utf8 c)) t) at.1
        ∙ ap (λ (t : List ℕ). take n rest ++ t) (take_at (encode_utf8 c) after (length (encode_utf8 c)) refl)
        ∙ ap (λ (t : List ℕ). t ++ encode_utf8 c) (sym front) in
        valid.longest (n + length (encode_utf8 c)) (omega arith)
        (subst IsUtf8 (sym same) (IsUtf8-append (take n (take end rest)) (encode_utf8 c) valid.front (IsUtf8-encode c at.0)))

    over_end : n < end → end < n + length (encode_utf8 c) → ⊥
    over_end short over =
        let left : length (drop n rest) ≡ length rest - n = length-drop n rest in
        let both : length (drop n rest) ≡ length (encode_utf8 c) + length after = ap length at.1 ∙ length-append (encode_utf8 c) after in
        let there : get_or (drop n rest) (end - n) 0 ≡ get_or rest end 0 = get_or-drop n rest (end - n) 0 ∙ ap (λ (k : ℕ). get_or rest k 0) (omega arith) in
        let low : get_or rest end 0 < 128 = line_end_low (get_or rest end 0) (ends.there (omega arith)) in
        let one : c ≡ get_or (drop n rest) (end - n) 0 = inside_one c after (drop n rest) (end - n) at.1 (omega arith) (omega arith) in
        let size : length (encode_utf8 c) ≡ 1 = length-encode c ∙ len_utf8_ascii c (omega arith) in
        omega arith

module _ (text : List ℕ) (at : ℕ) (r : Option ℕ) (end : ℕ) (found : IsFirstByte (is_byte2 10 13) (take (length text - at) (drop at text)) r) (is : end ≡ unwrap_or r (length (take (length text - at) (drop at text)))) where
  abbrev rest : List ℕ
  rest = take (length text - at) (drop at text)

  ends : LineEnds rest end
  ends = line_found rest r end found is

  up_to : (n : ℕ) → n ≤ end → IsTrue (list_all (λ b. not (is_line_end b)) (slice_range text at (at + n)))
  up_to n le =
      let same : take n rest ≡ slice_range text at (at + n) = ap (take n) (take_rest text at) ∙ ap (λ (k : ℕ). take k (drop at text)) (omega arith) in
      subst (λ (t : List ℕ). IsTrue (list_all (λ b. not (is_line_end b)) t)) same (line_inside rest end n ends le)

  pub body_whole : IsTrue (list_all (λ b. not (is_line_end b)) (slice_range text at (at + end)))
  body_whole = up_to end (omega arith)

  module _ (n valid : ℕ) (e : n ≡ valid) (front : IsValidUpTo (take end rest) valid) where
    within : n < end
    within = omega (arith, front.short, length-take-le end rest ends.within)

    pub body_front : IsTrue (list_all (λ b. not (is_line_end b)) (slice_range text at (at + n)))
    body_front = up_to n (omega (arith, within))

    pub body_stops : IsIllFormed (drop (at + n) text)
    body_stops =
        let behind : drop n rest ≡ drop (at + n) text = ap (drop n) (take_rest text at) ∙ drop-drop n at text in
        let some : 0 < length (drop n rest) = omega (arith, length-drop n rest, within, ends.within) in
        subst IsIllFormed behind
        (λ none. (let l : length (drop n rest) ≡ 0 = ap length none in absurd (omega arith)), none_stands rest end n ends (subst (IsValidUpTo (take end rest)) (sym e) front))

pub ruleset body_steps = (body_whole, body_front, body_stops)
