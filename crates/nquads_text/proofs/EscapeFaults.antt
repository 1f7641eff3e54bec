-- The fault of an escape is met exactly where the table has one.
use Rattle.std.proofs.Common.{◌≡◌, ℕ, suc, ◌+◌, ◌*◌, ◌<◌, Bool, true, false, cond, ◌||◌, List, [], ◌∷◌, ◌++◌, length, IsTrue, Option, Some, None, is_some, Ok, Err, nat_eq, refl, sym, ap, subst, ◌∙◌, ◌⊎◌, inl, inr, ⊎_elim, arith, append_assoc}
use Rattle.std.specs.List.{list_all}
use Rattle.std.specs.Char.{IsScalar, is_digit, digit_value}
use Rattle.std.proofs.lemmas.Bool.{eqb-true, and_parts, false≢true}
use Rattle.std.proofs.lemmas.List.{length-append}
use Rattle.std.proofs.lemmas.List.Folds.{list_all-append}
use lib.Utf8.{scalar}
use Rattle.nquads_text.specs.declared.fault.TextKind.TheVariants.{BadEscape}
use Rattle.nquads_text.specs.Fault.{TextFault, TextRead, ◌>>=◌}
use Rattle.nquads_text.specs.Reading.{char_at, digit_at, four_digits_at, eight_digits_at, code_at, uchar_at}
use Rattle.nquads_text.specs.Grammar.{is_hex, FourDigits, EightDigits, UcharForm, echar}
use Rattle.nquads_text.specs.Faults.{Lacks, EscapeFault, is_uchar_letter, is_escape_letter, digits_of}
use Rattle.nquads_text.proofs.Fronts.{char_at-ascii, char_spelled}
use Rattle.nquads_text.proofs.Steps.{bind_err, chosen, not_both, err_is}
use Rattle.nquads_text.proofs.Inside.{digit_taken, digit_again, four_digits_taken, four_digits_again, eight_digits_again, IsCode, code_taken, low_char}
use Rattle.nquads_text.proofs.Needed.{char_fault, no_character, char_stands, needed_fault, needed_lacks}

-- ---- digits

-- less than n digits, and then none; start is the text from the backslash on
abbrev pub Short : List ℕ → ℕ → List ℕ → TextFault → Type 0
Short start n rest f = (digits behind : List ℕ) × IsTrue (list_all is_hex digits) × (length digits < n) × (rest ≡ digits ++ behind) × Lacks is_hex behind (BadEscape, start) f

digit_fault : (start rest : List ℕ) (f : TextFault) → digit_at start rest ≡ Err f → Lacks is_hex rest (BadEscape, start) f
unfolding digit_at
digit_fault start rest f e =
    ⊎_elim
    (λ lacks. lacks)
    (λ there. absurd (not_both (digit_value there.0.0, there.0.1) f there.3))
    (needed_fault is_hex rest (BadEscape, start) f (λ (c : ℕ × List ℕ). Ok (digit_value c.0, c.1)) e)

digit_lacks : (start rest : List ℕ) (f : TextFault) → Lacks is_hex rest (BadEscape, start) f → digit_at start rest ≡ Err f
unfolding digit_at
digit_lacks start rest f l = needed_lacks is_hex rest (BadEscape, start) f (λ (c : ℕ × List ℕ). Ok (digit_value c.0, c.1)) l

one_more : (c : ℕ) (digits : List ℕ) → is_digit c 16 ≡ true → IsTrue (list_all is_hex digits) → IsTrue (list_all is_hex (c ∷ digits))
one_more c digits e others = rw (e, others) refl

digit_step : {X : Type 0} (n : ℕ) (start rest : List ℕ) (f : TextFault) (next : ℕ × List ℕ → TextRead X)
    → ((a : ℕ × List ℕ) → next a ≡ Err f → Short start n a.1 f) → (digit_at start rest >>= next) ≡ Err f → Short start (suc n) rest f
digit_step n start rest f next others e =
    ⊎_elim
    (λ here. ([], rest, refl, omega arith, refl, digit_fault start rest f here))
    (λ later.
    let a = later.0 in
    let t = digit_taken start rest a later.1 in
    let s = others a later.2 in
    let lt : length s.0 < n = s.3 in
    let parts : rest ≡ t.is.0 ∷ (s.0 ++ s.1) = t.parts ∙ ap (λ (u : List ℕ). u ++ a.1) t.is.2 ∙ ap (λ (u : List ℕ). t.is.0 ∷ u) s.4 in
    (t.is.0 ∷ s.0, s.1, one_more t.is.0 s.0 t.is.1 s.2, omega arith, parts, s.5))
    (bind_err (digit_at start rest) next f e)

digit_back : {X : Type 0} (n : ℕ) (start rest : List ℕ) (f : TextFault) (next : ℕ × List ℕ → TextRead X)
    → ((a : ℕ × List ℕ) → Short start n a.1 f → next a ≡ Err f) → Short start (suc n) rest f → (digit_at start rest >>= next) ≡ Err f
digit_back n start rest f next others s = by s.0 s.1 s.2 s.3 s.4 s.5
  where
    by : (digits behind : List ℕ) → IsTrue (list_all is_hex digits) → length digits < suc n → rest ≡ digits ++ behind → Lacks is_hex behind (BadEscape, start) f
        → (digit_at start rest >>= next) ≡ Err f
    by [] behind hex lt parts l = ap (λ (r : TextRead ℕ). r >>= next) (ap (digit_at start) parts ∙ digit_lacks start behind f l)
    by (w ∷ digits) behind hex lt parts l =
        let h = and_parts (is_hex w) (list_all is_hex digits) hex in
        ap (λ (r : TextRead ℕ). r >>= next) (ap (digit_at start) parts ∙ digit_again start w (digits ++ behind) h.0)
        ∙ others (digit_value w, digits ++ behind) (digits, behind, h.1, omega arith, refl, l)

none_short : (start rest : List ℕ) (f : TextFault) → Short start 0 rest f → ⊥
none_short start rest f s = let lt : length s.0 < 0 = s.3 in omega arith

pub four_fault : (start rest : List ℕ) (f : TextFault) → four_digits_at start rest ≡ Err f → Short start 4 rest f
unfolding four_digits_at
four_fault start rest f e =
    digit_step 3 start rest f _ (λ a. digit_step 2 start a.1 f _ (λ b. digit_step 1 start b.1 f _ (λ c. digit_step 0 start c.1 f _ (λ d ok. absurd (not_both _ f ok))))) e

pub four_short : (start rest : List ℕ) (f : TextFault) → Short start 4 rest f → four_digits_at start rest ≡ Err f
unfolding four_digits_at
four_short start rest f s =
    digit_back 3 start rest f _ (λ a. digit_back 2 start a.1 f _ (λ b. digit_back 1 start b.1 f _ (λ c. digit_back 0 start c.1 f _ (λ d none. absurd (none_short start d.1 f none))))) s

four_hex : (bytes : List ℕ) (n : ℕ) → FourDigits bytes n → IsTrue (list_all is_hex bytes) × (length bytes ≡ 4)
four_hex bytes n d = (ap (list_all is_hex) d.5 ∙ d.4, ap length d.5)

both_hex : (a b : List ℕ) → IsTrue (list_all is_hex a) → IsTrue (list_all is_hex b) → IsTrue (list_all is_hex (a ++ b))
both_hex a b e f = list_all-append is_hex a b ∙ rw (e, f) refl

pub eight_fault : (start rest : List ℕ) (f : TextFault) → eight_digits_at start rest ≡ Err f → Short start 8 rest f
unfolding eight_digits_at
eight_fault start rest f e =
    ⊎_elim
    (λ high.
    let s = four_fault start rest f high in
    let lt : length s.0 < 4 = s.3 in
    (s.0, s.1, s.2, omega arith, s.4, s.5))
    (λ there.
    let h = there.0 in
    let t = four_digits_taken start rest h there.1 in
    ⊎_elim
    (λ low.
    let s = four_fault start h.1 f low in
    let lt : length s.0 < 4 = s.3 in
    let four = four_hex t.bytes h.0 t.is in
    let count : length t.bytes ≡ 4 = four.1 in
    (t.bytes ++ s.0, s.1, both_hex t.bytes s.0 four.0 s.2, omega (arith, length-append t.bytes s.0), t.parts ∙ ap (λ (u : List ℕ). t.bytes ++ u) s.4 ∙ sym (append_assoc t.bytes s.0 s.1), s.5))
    (λ whole. absurd (not_both _ f whole.2))
    (bind_err (four_digits_at start h.1) (λ (l : ℕ × List ℕ). Ok (65536 * h.0 + l.0, l.1)) f there.2))
    (bind_err (four_digits_at start rest) (λ (h : ℕ × List ℕ). four_digits_at start h.1 >>= λ (l : ℕ × List ℕ). Ok (65536 * h.0 + l.0, l.1)) f e)

abbrev eight : List ℕ → List ℕ → TextRead ℕ
eight start rest = four_digits_at start rest >>= λ (h : ℕ × List ℕ). four_digits_at start h.1 >>= λ (l : ℕ × List ℕ). Ok (65536 * h.0 + l.0, l.1)

pub eight_short : (start rest : List ℕ) (f : TextFault) → Short start 8 rest f → eight_digits_at start rest ≡ Err f
unfolding eight_digits_at
eight_short start rest f s = by s.0 s.1 s.2 s.3 s.4 s.5
  where
    few : (digits behind : List ℕ) → IsTrue (list_all is_hex digits) → length digits < 4 → rest ≡ digits ++ behind → Lacks is_hex behind (BadEscape, start) f
        → eight start rest ≡ Err f
    few digits behind hex lt parts l = rw (four_short start rest f (digits, behind, hex, lt, parts, l)) refl

    by : (digits behind : List ℕ) → IsTrue (list_all is_hex digits) → length digits < 8 → rest ≡ digits ++ behind → Lacks is_hex behind (BadEscape, start) f
        → eight start rest ≡ Err f
    by [] behind hex lt parts l = few [] behind hex (omega arith) parts l
    by (w ∷ []) behind hex lt parts l = few (w ∷ []) behind hex (omega arith) parts l
    by (w ∷ x ∷ []) behind hex lt parts l = few (w ∷ x ∷ []) behind hex (omega arith) parts l
    by (w ∷ x ∷ y ∷ []) behind hex lt parts l = few (w ∷ x ∷ y ∷ []) behind hex (omega arith) parts l
    by (w ∷ x ∷ y ∷ z ∷ digits) behind hex lt parts l =
        let h = and_parts (list_all is_hex (w ∷ x ∷ y ∷ z ∷ [])) (list_all is_hex digits) (sym (list_all-append is_hex (w ∷ x ∷ y ∷ z ∷ []) digits) ∙ hex) in
        let n : ℕ = 4096 * digit_value w + 256 * digit_value x + 16 * digit_value y + digit_value z in
        let high : four_digits_at start rest ≡ Ok (n, digits ++ behind) = ap (four_digits_at start) parts ∙ four_digits_again start (w ∷ x ∷ y ∷ z ∷ []) n (digits ++ behind) (w, x, y, z, h.0, refl, refl) in
        let low : four_digits_at start (digits ++ behind) ≡ Err f = four_short start (digits ++ behind) f (digits, behind, h.1, omega arith, refl, l) in
        rw (high, low) refl

-- ---- a UCHAR, from behind its backslash on

uchar_forms : (letter : ℕ) (digits : List ℕ) (n : ℕ) → IsCode letter digits n → UcharForm (92 ∷ letter ∷ digits) n
uchar_forms letter digits n code =
    ⊎_elim
    (λ small. inl (digits, small.1, ap (λ (l : ℕ). 92 ∷ l ∷ digits) small.0))
    (λ big. inr (digits, big.1, ap (λ (l : ℕ). 92 ∷ l ∷ digits) big.0))
    code

no_letter : (letter : ℕ) → nat_eq letter 117 ≡ false → nat_eq letter 85 ≡ false → is_uchar_letter letter ≡ false
no_letter letter a b = rw (a, b) refl

code_low : (letter : ℕ) (digits : List ℕ) (n : ℕ) → IsCode letter digits n → letter < 128
code_low letter digits n code = ⊎_elim (λ small. let e : letter ≡ 117 = small.0 in omega arith) (λ big. let e : letter ≡ 85 = big.0 in omega arith) code

not_scalar : (n : ℕ) → scalar n ≡ false → IsScalar n → ⊥
not_scalar n no_char is = false≢true (sym no_char ∙ is)

module _ (fits : ℕ → Bool) (rest : List ℕ) (f : TextFault) where
  abbrev start : List ℕ
  start = 92 ∷ rest

  pub digits_lack : (u n : ℕ) (more : List ℕ) → rest ≡ u ∷ more → n ≡ digits_of u → Short start n more f → EscapeFault fits start f
  digits_lack u n more parts count s =
      EscapeFault.digit u s.0 s.1 (ap (λ (t : List ℕ). 92 ∷ t) (parts ∙ ap (λ (t : List ℕ). u ∷ t) s.4)) s.2 (subst (λ (k : ℕ). length s.0 < k) count s.3) s.5

  code_fault : (letter : ℕ × List ℕ) → char_at rest ≡ Ok letter → (is_uchar_letter letter.0 ≡ false → fits letter.0 ≡ false) → code_at start letter.0 letter.1 ≡ Err f → EscapeFault fits start f
  unfolding code_at
  code_fault letter read also e =
      ⊎_elim
      (λ small. digits_lack 117 4 letter.1 (low_char rest letter 117 read (eqb-true letter.0 117 small.0) (omega arith)) refl (four_fault start letter.1 f small.1))
      (λ other. ⊎_elim
      (λ big. digits_lack 85 8 letter.1 (low_char rest letter 85 read (eqb-true letter.0 85 big.0) (omega arith)) refl (eight_fault start letter.1 f big.1))
      (λ neither. EscapeFault.letter rest refl (Lacks.another letter.0 letter.1 (char_spelled rest letter.0 letter.1 read) (also (no_letter letter.0 other.0 neither.0)) (sym (err_is (BadEscape, start) f neither.1))))
      (chosen (nat_eq letter.0 85) (eight_digits_at start letter.1) (Err (BadEscape, start)) (Err f) other.1))
      (chosen (nat_eq letter.0 117) (four_digits_at start letter.1) (cond (nat_eq letter.0 85) (eight_digits_at start letter.1) (Err (BadEscape, start))) (Err f) e)

  -- the fault that is met; `fits` may take more letters, which don't stand there
  pub uchar_fault : ((letter : ℕ × List ℕ) → char_at rest ≡ Ok letter → is_uchar_letter letter.0 ≡ false → fits letter.0 ≡ false) → uchar_at start rest ≡ Err f → EscapeFault fits start f
  unfolding uchar_at
  uchar_fault also e =
      ⊎_elim
      (λ none. EscapeFault.letter rest refl (Lacks.nothing (char_fault rest f none)))
      (λ there.
      let letter = there.0 in
      ⊎_elim
      (λ bad. code_fault letter there.1 (also letter there.1) bad)
      (λ whole.
      let code = whole.0 in
      let t = code_taken start letter.1 letter.0 code whole.1 in
      ⊎_elim
      (λ fine. absurd (not_both code f fine.1))
      (λ no_char.
      let front : rest ≡ letter.0 ∷ letter.1 = low_char rest letter letter.0 there.1 refl (code_low letter.0 t.bytes code.0 t.is) in
      EscapeFault.number (92 ∷ letter.0 ∷ t.bytes) code.1 code.0
      (ap (λ (u : List ℕ). 92 ∷ u) (front ∙ ap (λ (u : List ℕ). letter.0 ∷ u) t.parts))
      (uchar_forms letter.0 t.bytes code.0 t.is) (not_scalar code.0 no_char.0) (sym (err_is (BadEscape, start) f no_char.1)))
      (chosen (scalar code.0) (Ok code) (Err (BadEscape, start)) (Err f) whole.2))
      (bind_err (code_at start letter.0 letter.1) (λ (code : ℕ × List ℕ). cond (scalar code.0) (Ok code) (Err (BadEscape, start))) f there.2))
      (bind_err (char_at rest) (λ (letter : ℕ × List ℕ). code_at start letter.0 letter.1 >>= λ (code : ℕ × List ℕ). cond (scalar code.0) (Ok code) (Err (BadEscape, start))) f e)

-- ---- the other way round

letter_of : (u k : ℕ) → k < digits_of u → (u ≡ 117) ⊎ (u ≡ 85)
letter_of u k lt = by (nat_eq u 117) (nat_eq u 85) refl refl lt
  where
    by : (small big : Bool) → nat_eq u 117 ≡ small → nat_eq u 85 ≡ big → k < cond small 4 (cond big 8 0) → (u ≡ 117) ⊎ (u ≡ 85)
    by true big a b lt = inl (eqb-true u 117 a)
    by false true a b lt = inr (eqb-true u 85 b)
    by false false a b lt = absurd (omega arith)

scalar_false : (n : ℕ) → (IsScalar n → ⊥) → scalar n ≡ false
scalar_false n bad = by (scalar n) refl
  where
    by : (b : Bool) → scalar n ≡ b → scalar n ≡ false
    by true e = absurd (bad e)
    by false e = e

neither : (c : ℕ) → is_uchar_letter c ≡ false → (nat_eq c 117 ≡ false) × (nat_eq c 85 ≡ false)
neither c e = by (nat_eq c 117) (nat_eq c 85) e
  where
    by : (a b : Bool) → (a || b) ≡ false → (a ≡ false) × (b ≡ false)
    by true b e = absurd (false≢true (sym e))
    by false b e = (refl, e)

pub uchar_lacks : (rest : List ℕ) (f : TextFault) → EscapeFault is_uchar_letter (92 ∷ rest) f → uchar_at (92 ∷ rest) rest ≡ Err f
unfolding uchar_at code_at
uchar_lacks rest f (EscapeFault.letter there e l) = by l
  where
    same : there ≡ rest
    same = cc

    by : Lacks is_uchar_letter there (BadEscape, 92 ∷ rest) f → uchar_at (92 ∷ rest) rest ≡ Err f
    by (Lacks.nothing n) = rw (ap char_at (sym same) ∙ no_character there f n) refl
    by (Lacks.another c after at misfit is) =
        let n = neither c misfit in
        rw (ap char_at (sym same) ∙ char_stands there c after at, n.0, n.1) (ap (λ (g : TextFault). Err g) (sym is))
uchar_lacks rest f (EscapeFault.digit u digits there e hex lt l) = ⊎_elim small big (letter_of u (length digits) lt)
  where
    shape : rest ≡ u ∷ (digits ++ there)
    shape = cc

    small : u ≡ 117 → uchar_at (92 ∷ rest) rest ≡ Err f
    small is =
        let front : rest ≡ 117 ∷ (digits ++ there) = shape ∙ ap (λ (k : ℕ). k ∷ (digits ++ there)) is in
        let count : length digits < 4 = subst (λ (k : ℕ). length digits < digits_of k) is lt in
        rw (ap char_at front ∙ char_at-ascii 117 (digits ++ there) (omega arith), four_short (92 ∷ rest) (digits ++ there) f (digits, there, hex, count, refl, l)) refl

    big : u ≡ 85 → uchar_at (92 ∷ rest) rest ≡ Err f
    big is =
        let front : rest ≡ 85 ∷ (digits ++ there) = shape ∙ ap (λ (k : ℕ). k ∷ (digits ++ there)) is in
        let count : length digits < 8 = subst (λ (k : ℕ). length digits < digits_of k) is lt in
        rw (ap char_at front ∙ char_at-ascii 85 (digits ++ there) (omega arith), eight_short (92 ∷ rest) (digits ++ there) f (digits, there, hex, count, refl, l)) refl
uchar_lacks rest f (EscapeFault.number bytes there n e form bad is) = ⊎_elim small big form
  where
    small : (digits : List ℕ) × FourDigits digits n × (bytes ≡ 92 ∷ 117 ∷ digits) → uchar_at (92 ∷ rest) rest ≡ Err f
    small d =
        let whole : 92 ∷ rest ≡ 92 ∷ 117 ∷ (d.0 ++ there) = e ∙ ap (λ (t : List ℕ). t ++ there) d.2 in
        let front : rest ≡ 117 ∷ (d.0 ++ there) = cc in
        rw (ap char_at front ∙ char_at-ascii 117 (d.0 ++ there) (omega arith), four_digits_again (92 ∷ rest) d.0 n there d.1, scalar_false n bad) (ap (λ (g : TextFault). Err g) (sym is))

    big : (digits : List ℕ) × EightDigits digits n × (bytes ≡ 92 ∷ 85 ∷ digits) → uchar_at (92 ∷ rest) rest ≡ Err f
    big d =
        let whole : 92 ∷ rest ≡ 92 ∷ 85 ∷ (d.0 ++ there) = e ∙ ap (λ (t : List ℕ). t ++ there) d.2 in
        let front : rest ≡ 85 ∷ (d.0 ++ there) = cc in
        rw (ap char_at front ∙ char_at-ascii 85 (d.0 ++ there) (omega arith), eight_digits_again (92 ∷ rest) d.0 n there d.1, scalar_false n bad) (ap (λ (g : TextFault). Err g) (sym is))

-- a fault of an escape begins with a backslash
pub escape_opens : (fits : ℕ → Bool) (text : List ℕ) (f : TextFault) → EscapeFault fits text f → (rest : List ℕ) × (text ≡ 92 ∷ rest)
escape_opens fits text f (EscapeFault.letter rest e l) = (rest, e)
escape_opens fits text f (EscapeFault.digit u digits rest e hex lt l) = (u ∷ (digits ++ rest), e)
escape_opens fits text f (EscapeFault.number bytes rest n e form bad is) =
    ⊎_elim
    (λ small. (117 ∷ (small.0 ++ rest), e ∙ ap (λ (t : List ℕ). t ++ rest) small.2))
    (λ big. (85 ∷ (big.0 ++ rest), e ∙ ap (λ (t : List ℕ). t ++ rest) big.2))
    form

-- ---- in a string, where ECHAR has letters of its own

some_or : (o : Option ℕ) (letter : Bool) → (is_some o || letter) ≡ false → (o ≡ None) × (letter ≡ false)
some_or None letter e = (refl, e)
some_or (Some c) letter e = absurd (false≢true (sym e))

abbrev Named : List ℕ → TextFault → Type 0
Named rest f = (char_at rest ≡ Err f) ⊎ ((letter : ℕ × List ℕ) × (char_at rest ≡ Ok letter) × (echar letter.0 ≡ None) × EscapeFault is_uchar_letter (92 ∷ rest) f)

no_short : (u : ℕ) → (u ≡ 117) ⊎ (u ≡ 85) → (u < 128) × (echar u ≡ None)
no_short u is =
    ⊎_elim
    (λ small. let e : u ≡ 117 = small in (omega arith, ap echar small))
    (λ big. let e : u ≡ 85 = big in (omega arith, ap echar big))
    is

pub escape_by : (rest : List ℕ) (f : TextFault) → EscapeFault is_escape_letter (92 ∷ rest) f → Named rest f
escape_by rest f (EscapeFault.letter there e l) = by l
  where
    same : there ≡ rest
    same = cc

    by : Lacks is_escape_letter there (BadEscape, 92 ∷ rest) f → Named rest f
    by (Lacks.nothing n) = inl (ap char_at (sym same) ∙ no_character there f n)
    by (Lacks.another c after at misfit is) =
        let p = some_or (echar c) (is_uchar_letter c) misfit in
        inr ((c, after), ap char_at (sym same) ∙ char_stands there c after at, p.0, EscapeFault.letter there e (Lacks.another c after at p.1 is))
escape_by rest f (EscapeFault.digit u digits there e hex lt l) =
    let s = no_short u (letter_of u (length digits) lt) in
    let shape : rest ≡ u ∷ (digits ++ there) = cc in
    inr ((u, digits ++ there), ap char_at shape ∙ char_at-ascii u (digits ++ there) s.0, s.1, EscapeFault.digit u digits there e hex lt l)
escape_by rest f (EscapeFault.number bytes there n e form bad is) = by form
  where
    by : UcharForm bytes n → Named rest f
    by (inl d) =
        let whole : 92 ∷ rest ≡ 92 ∷ 117 ∷ (d.0 ++ there) = e ∙ ap (λ (t : List ℕ). t ++ there) d.2 in
        let front : rest ≡ 117 ∷ (d.0 ++ there) = cc in
        inr ((117, d.0 ++ there), ap char_at front ∙ char_at-ascii 117 (d.0 ++ there) (omega arith), refl, EscapeFault.number bytes there n e form bad is)
    by (inr d) =
        let whole : 92 ∷ rest ≡ 92 ∷ 85 ∷ (d.0 ++ there) = e ∙ ap (λ (t : List ℕ). t ++ there) d.2 in
        let front : rest ≡ 85 ∷ (d.0 ++ there) = cc in
        inr ((85, d.0 ++ there), ap char_at front ∙ char_at-ascii 85 (d.0 ++ there) (omega arith), refl, EscapeFault.number bytes there n e form bad is)
