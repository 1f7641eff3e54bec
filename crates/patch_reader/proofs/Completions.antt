-- The front of a character can be made whole, and that of a character of a label as one.
use Rattle.std.proofs.Common.{◌≡◌, ℕ, zero, suc, cond, ◌<◌, ◌≤◌, Bool, true, false, List, [], ◌∷◌, ◌++◌, length, Option, Some, None, Ok, nat_eq, nat_lt, refl, sym, ap, ◌∙◌, ⊎_elim, arith, slice_index, drop, ◌&&◌, is_none}
use Rattle.std.proofs.lemmas.Bool.{false≢true, and_parts, not-true, cases_lt, cases_eq, or_right, or_parts, eqb-true, ne_eqb}
use Rattle.std.proofs.lemmas.Bool.Decides.{nat_tests}
use Rattle.bstr.specs.Utf8.{Decoded, decoded, decoded_by, second, continues, code_of_2, code_of_3, code_of_4}
use Rattle.bstr.proofs.lemmas.PieceLemmas.{by-shape, value-6, value-9, value-12}
use Rattle.case_tables.specs.Tables.{has_char, is_in_row}
use Rattle.rdf_terms.specs.Names.{is_name_char, name_rows}
use Rattle.nquads_text.specs.Reading.{char_at}
use Rattle.patch_rows.specs.Cut.{leads, is_front, no_name_pair, no_name_begins, begins_name_char}
use Rattle.patch_reader.proofs.Stays.{good_char}

-- ---- characters of labels

-- the rows of their table behind ASCII
abbrev in_block : ℕ → Bool
in_block c = has_char (drop 6 name_rows) c

rows_behind : (n : ℕ) (rows : List (ℕ × ℕ)) (c : ℕ) → has_char (drop n rows) c ≡ true → has_char rows c ≡ true
rows_behind zero rows c e = e
rows_behind (suc n) [] c e = e
rows_behind (suc n) (row ∷ rows) c e = or_right (is_in_row c row) (has_char rows c) (rows_behind n rows c e)

no_dot : (c : ℕ) → in_block c ≡ true → nat_eq c 46 ≡ false
no_dot c e = ne_eqb c 46 (λ is. false≢true (sym (ap in_block is) ∙ e))

-- a character of a label, and no dot
abbrev pub Named : ℕ → Type 0
Named c = (is_name_char c ≡ true) × (nat_eq c 46 ≡ false)

named : (c : ℕ) → in_block c ≡ true → Named c
unfolding is_name_char
named c is = (rows_behind 6 name_rows c is, no_dot c is)

-- ---- bytes that make a front whole

-- a byte with which no character begins
abbrev pub stop : List ℕ
stop = 255 ∷ []

-- the front with these bytes behind it is a character, whatever follows, and one of a label if the front may begin one
abbrev pub Completed : List ℕ → Type 0
Completed front = (bytes : List ℕ) × (c : ℕ) × (char_at (front ++ (bytes ++ stop)) ≡ Ok (c, stop)) × (1 ≤ length bytes) × (begins_name_char front ≡ true → Named c)

-- what is decoded is the character
decoded_char : (b : ℕ) (bs : List ℕ) (c size : ℕ) → decoded (b ∷ bs) ≡ record { char = Some c; size = size } → char_at (b ∷ bs) ≡ Ok (c, drop size (b ∷ bs))
decoded_char b bs c size v = good_char b bs c (ap (λ (d : Decoded). d.char) v) ∙ ap (λ (k : ℕ). Ok (c, drop k (b ∷ bs))) (ap (λ (d : Decoded). d.size) v)

whole_2 : (b c : ℕ) → 0xC2 ≤ b → b < 0xE0 → continues c ≡ true → char_at (b ∷ c ∷ stop) ≡ Ok (code_of_2 b c, stop)
whole_2 b c low high go =
    let sec : second b c ≡ true = grind (arith, nat_tests, high, go) in
    decoded_char b (c ∷ stop) (code_of_2 b c) 2 (value-6 (length (b ∷ c ∷ stop)) b c 255 0 (omega arith, low, high, sec))

whole_3 : (b c d : ℕ) → 0xE0 ≤ b → b < 0xF0 → second b c ≡ true → continues d ≡ true → char_at (b ∷ c ∷ d ∷ stop) ≡ Ok (code_of_3 b c d, stop)
whole_3 b c d low high sec go = decoded_char b (c ∷ d ∷ stop) (code_of_3 b c d) 3 (value-9 (length (b ∷ c ∷ d ∷ stop)) b c d 255 (omega arith, low, high, sec, go))

whole_4 : (b c d e : ℕ) → 0xF0 ≤ b → b ≤ 0xF4 → second b c ≡ true → continues d ≡ true → continues e ≡ true → char_at (b ∷ c ∷ d ∷ e ∷ stop) ≡ Ok (code_of_4 b c d e, stop)
whole_4 b c d e low high sec go on = decoded_char b (c ∷ d ∷ e ∷ stop) (code_of_4 b c d e) 4 (value-12 (length (b ∷ c ∷ d ∷ e ∷ stop)) b c d e (omega arith, low, high, sec, go, on))

-- the bytes: the last of two, the second of more, the last of three
abbrev last_of_two : ℕ → ℕ
last_of_two b = cond (nat_eq b 0xC2) 0xB7 0xBF

abbrev second_of : ℕ → ℕ
second_of b = cond (nat_eq b 0xE2) 0x82 (cond (nat_eq b 0xED) 0x9F (cond (nat_eq b 0xF4) 0x80 (cond (nat_lt 0xEF b) 0x90 0xBF)))

abbrev last_of_three : ℕ → ℕ
last_of_three c = cond (nat_eq c 0x80) 0xBF 0x80

two_continue : (b : ℕ) → continues (last_of_two b) ≡ true
two_continue b = grind (arith, nat_tests)

three_continue : (c : ℕ) → continues (last_of_three c) ≡ true
three_continue c = grind (arith, nat_tests)

second_fits : (b : ℕ) → 0xE0 ≤ b → b ≤ 0xF4 → second b (second_of b) ≡ true
second_fits b low high = grind (arith, nat_tests)

second_names : (b : ℕ) → 0xE0 ≤ b → b ≤ 0xF4 → no_name_begins 1 b 0 ≡ false → no_name_begins 2 b (second_of b) ≡ false
second_names b low high may = grind (arith, nat_tests, may)

two_named : (b : ℕ) → 0xC2 ≤ b → b < 0xE0 → in_block (code_of_2 b (last_of_two b)) ≡ true
two_named b low high = grind (arith, nat_tests)

three_further : (b c : ℕ) → 0xE0 ≤ b → b < 0xF0 → (c ≡ 0x80 → ⊥) → second b c ≡ true → (nat_eq b 0xEE ≡ false) × (no_name_pair b c ≡ false) → in_block (code_of_3 b c 0x80) ≡ true
three_further b c low high further sec may = ⊎_elim (λ l. grind (arith, nat_tests, l, sec, may)) (λ h. grind (arith, nat_tests, h, sec, may)) (cases_lt b 0xE3)

three_named : (b c : ℕ) → 0xE0 ≤ b → b < 0xF0 → second b c ≡ true → no_name_begins 2 b c ≡ false → in_block (code_of_3 b c (last_of_three c)) ≡ true
three_named b c low high sec may = ⊎_elim
    (λ first. grind (arith, nat_tests, first, sec, may))
    (λ further. let p = or_parts (nat_eq b 0xEE) _ may in rw (ne_eqb c 0x80 further) (three_further b c low high further sec (p.0, (or_parts (nat_eq b 0xF4) (no_name_pair b c) p.1).1)))
    (cases_eq c 0x80)

in_planes : (c : ℕ) → (0x1_0000 ≤ c) × (c < 0xF_0000) → in_block c ≡ true
in_planes c is = grind (arith, nat_tests, is)

four_within : (b c d e : ℕ) → 0xF0 ≤ b → b ≤ 0xF4 → second b c ≡ true → continues d ≡ true → continues e ≡ true → no_name_begins 2 b c ≡ false → (0x1_0000 ≤ code_of_4 b c d e) × (code_of_4 b c d e < 0xF_0000)
four_within b c d e low high sec go on may = grind (arith, nat_tests, sec, go, on, may)

four_named : (b c d e : ℕ) → 0xF0 ≤ b → b ≤ 0xF4 → second b c ≡ true → continues d ≡ true → continues e ≡ true → no_name_begins 2 b c ≡ false → in_block (code_of_4 b c d e) ≡ true
four_named b c d e low high sec go on may = in_planes (code_of_4 b c d e) (four_within b c d e low high sec go on may)

-- what the size of a front says of it
abbrev FrontShape : ℕ → ℕ → ℕ → ℕ → Type 0
FrontShape size b c d = (size ≤ 3) × (1 < size → (second b c ≡ true) × (0xE0 ≤ b)) × (size ≡ 3 → (0xF0 ≤ b) × (continues d ≡ true))

front_shape : (b c d e n : ℕ) → (decoded_by n b c d e).char ≡ None → FrontShape (decoded_by n b c d e).size b c d
front_shape b c d e n none =
    let char = λ (p : Decoded) (is : decoded_by n b c d e ≡ p). sym (ap (λ (q : Decoded). q.char) is) ∙ none in
    let sized = λ (p : Decoded) (is : decoded_by n b c d e ≡ p). ap (λ (q : Decoded). q.size) is in
    by-shape n b c d e
    (λ h. one (omega arith) (sized _ h.1))
    (λ h. let some = char _ h.2 in absurd cc)
    (λ h. one (omega arith) (sized _ h.3))
    (λ h. one (omega arith) (sized _ h.2))
    (λ h. one (omega arith) (sized _ h.4))
    (λ h. one (omega arith) (sized _ h.4))
    (λ h. let some = char _ h.4 in absurd cc)
    (λ h. two (sized _ h.5) (h.3, h.1))
    (λ h. two (sized _ h.5) (h.3, h.1))
    (λ h. let some = char _ h.5 in absurd cc)
    (λ h. three (sized _ h.6) h.3 (h.1, h.4))
    (λ h. three (sized _ h.6) h.3 (h.1, h.4))
    (λ h. let some = char _ h.6 in absurd cc)
  where
    one : {size k : ℕ} → k ≤ 1 → size ≡ k → FrontShape size b c d
    one few s = (omega (arith, s), λ more. absurd (omega (arith, s, more)), λ more. absurd (omega (arith, s, more)))

    two : {size : ℕ} → size ≡ 2 → (second b c ≡ true) × (0xE0 ≤ b) → FrontShape size b c d
    two s is = (omega (arith, s), λ _. is, λ more. absurd (omega (arith, s, more)))

    three : {size : ℕ} → size ≡ 3 → second b c ≡ true → (0xF0 ≤ b) × (continues d ≡ true) → FrontShape size b c d
    three s sec is = (omega (arith, s), λ _. (sec, omega (arith, is.0)), λ _. is)

-- ---- the fronts

none_of : (o : Option ℕ) → is_none o ≡ true → o ≡ None
none_of (Some c) e = absurd (false≢true e)
none_of None e = refl

-- what is said of a front
pub front_parts : (b : ℕ) (bs : List ℕ) → is_front (b ∷ bs) ≡ true → (0xC2 ≤ b) × (b ≤ 0xF4) × ((decoded (b ∷ bs)).char ≡ None) × ((decoded (b ∷ bs)).size ≡ length (b ∷ bs))
front_parts b bs e =
    let f = and_parts (leads b) (is_none (decoded (b ∷ bs)).char && nat_eq (decoded (b ∷ bs)).size (length (b ∷ bs))) e in
    let g = and_parts (is_none (decoded (b ∷ bs)).char) (nat_eq (decoded (b ∷ bs)).size (length (b ∷ bs))) f.1 in
    let led = f.0 in
    (grind (arith, nat_tests, led), grind (arith, nat_tests, led), none_of (decoded (b ∷ bs)).char g.0, eqb-true (decoded (b ∷ bs)).size (length (b ∷ bs)) g.1)

pub completed : (b : ℕ) (bs : List ℕ) → is_front (b ∷ bs) ≡ true → Completed (b ∷ bs)
completed b bs e = let f = front_parts b bs e in by bs f.0 f.1 f.2 f.3
  where
    may : (bs : List ℕ) → begins_name_char (b ∷ bs) ≡ true → no_name_begins (length (b ∷ bs)) b (slice_index (b ∷ bs) 1) ≡ false
    may bs e = not-true _ (and_parts (is_front (b ∷ bs)) _ e).1

    by : (bs : List ℕ) → 0xC2 ≤ b → b ≤ 0xF4 → (decoded (b ∷ bs)).char ≡ None → (decoded (b ∷ bs)).size ≡ length (b ∷ bs) → Completed (b ∷ bs)
    by [] low high none size = ⊎_elim
        (λ l. (last_of_two b ∷ [], code_of_2 b (last_of_two b), whole_2 b (last_of_two b) low l (two_continue b), omega arith, λ e. named _ (two_named b low l)))
        (λ r. let c : ℕ = second_of b in let sec = second_fits b r high in ⊎_elim
        (λ l. (c ∷ last_of_three c ∷ [], code_of_3 b c (last_of_three c), whole_3 b c (last_of_three c) r l sec (three_continue c), omega arith, λ e. named _ (three_named b c r l sec (second_names b r high (may [] e)))))
        (λ f. (c ∷ 0x80 ∷ 0x80 ∷ [], code_of_4 b c 0x80 0x80, whole_4 b c 0x80 0x80 f high sec refl refl, omega arith, λ e. named _ (four_named b c 0x80 0x80 f high sec refl refl (second_names b r high (may [] e)))))
        (cases_lt b 0xF0))
        (cases_lt b 0xE0)
    by (c ∷ []) low high none size =
        let t = (front_shape b c 0 0 2 none).1 (omega (arith, size)) in ⊎_elim
        (λ l. (last_of_three c ∷ [], code_of_3 b c (last_of_three c), whole_3 b c (last_of_three c) t.1 l t.0 (three_continue c), omega arith, λ e. named _ (three_named b c t.1 l t.0 (may (c ∷ []) e))))
        (λ f. (0x80 ∷ 0x80 ∷ [], code_of_4 b c 0x80 0x80, whole_4 b c 0x80 0x80 f high t.0 refl refl, omega arith, λ e. named _ (four_named b c 0x80 0x80 f high t.0 refl refl (may (c ∷ []) e))))
        (cases_lt b 0xF0)
    by (c ∷ d ∷ []) low high none size =
        let s = front_shape b c d 0 3 none in let t = s.1 (omega (arith, size)) in let f = s.2 size in
        (0x80 ∷ [], code_of_4 b c d 0x80, whole_4 b c d 0x80 f.0 high t.0 f.1 refl, omega arith, λ e. named _ (four_named b c d 0x80 f.0 high t.0 f.1 refl (may (c ∷ d ∷ []) e)))
    by (c ∷ d ∷ x ∷ bs) low high none size = let short = (front_shape b c d x (length (b ∷ c ∷ d ∷ x ∷ bs)) none).0 in absurd (omega (arith, short, size))

-- the front of a character has at most three bytes
pub front_length : (bs : List ℕ) → is_front bs ≡ true → length bs ≤ 3
front_length [] e = absurd (false≢true e)
front_length (b ∷ bs) e =
    let f = front_parts b bs e in let size = f.3 in
    let short = (front_shape b (slice_index (b ∷ bs) 1) (slice_index (b ∷ bs) 2) (slice_index (b ∷ bs) 3) (length (b ∷ bs)) f.2).0 in
    omega (arith, short, size)
