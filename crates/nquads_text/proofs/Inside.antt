-- What the reader of a piece gives is a piece of the grammar, and the other way round.
use Rattle.std.proofs.Common.{◌≡◌, ℕ, ◌+◌, ◌*◌, ◌<◌, true, false, cond, List, [], ◌∷◌, ◌++◌, IsTrue, Option, Some, None, Ok, Err, nat_eq, refl, sym, ap, subst, ◌∙◌, ◌⊎◌, inl, inr, ⊎_elim, arith, append_assoc}
use Rattle.std.specs.List.{list_all}
use Rattle.std.specs.Char.{encode_utf8, is_digit, digit_value}
use Rattle.std.proofs.lemmas.Bool.{eqb-true, ne_eqb, and_parts, false≢true}
use Rattle.std.proofs.lemmas.Bool.Decides.{nat_tests}
use Rattle.std.proofs.lemmas.Str.{encode_ascii}
use lib.Utf8.{scalar}
use Rattle.rdf_terms.specs.Iri.{is_forbidden}
use Rattle.nquads_text.specs.declared.fault.TextKind.TheVariants.{BadIri, BadEscape}
use Rattle.nquads_text.specs.Fault.{◌>>=◌}
use Rattle.nquads_text.specs.Reading.{char_at, digit_at, four_digits_at, eight_digits_at, code_at, uchar_at, iri_piece}
use Rattle.nquads_text.specs.Grammar.{is_hex, IsCharacter, FourDigits, EightDigits, IsUchar, IriPiece}
use Rattle.nquads_text.proofs.Fronts.{char_spelled, char_again, char_at-ascii}
use Rattle.nquads_text.proofs.Steps.{bind_ok, chosen, ok_is, not_ok}

-- what a reader took from the front, by a relation of the bytes and the value
pub record Takes {X : Type 0} (P : List ℕ → X → Type 0) (rest : List ℕ) (x : X × List ℕ) : Type 0 where
  pub bytes : List ℕ
  pub parts : rest ≡ bytes ++ x.1
  pub is : P bytes x.0

pub char_taken : (rest : List ℕ) (x : ℕ × List ℕ) → char_at rest ≡ Ok x → Takes IsCharacter rest x
char_taken rest x e =
    let s = char_spelled rest x.0 x.1 e in
    record { bytes = encode_utf8 x.0; parts = s.1; is = (s.0, refl) }

-- an ASCII character is its byte
pub low_char : (rest : List ℕ) (x : ℕ × List ℕ) (c : ℕ) → char_at rest ≡ Ok x → x.0 ≡ c → c < 128 → rest ≡ c ∷ x.1
low_char rest x c e same low =
    let s = char_spelled rest x.0 x.1 e in
    s.1 ∙ ap (λ (t : List ℕ). t ++ x.1) (ap encode_utf8 same ∙ encode_ascii c low)

abbrev pub IsDigit : List ℕ → ℕ → Type 0
IsDigit bytes n = (c : ℕ) × (is_digit c 16 ≡ true) × (bytes ≡ c ∷ []) × (n ≡ digit_value c)

digit_low : (c : ℕ) → is_digit c 16 ≡ true → c < 128
digit_low c e = grind (arith, nat_tests)

pub digit_taken : (start rest : List ℕ) (x : ℕ × List ℕ) → digit_at start rest ≡ Ok x → Takes IsDigit rest x
unfolding digit_at
digit_taken start rest x e =
    let a = bind_ok (char_at rest) (λ (c : ℕ × List ℕ). cond (is_digit c.0 16) (Ok (digit_value c.0, c.1)) (Err (BadEscape, start))) x e in
    ⊎_elim
    (λ yes.
    let same = ok_is (digit_value a.0.0, a.0.1) x yes.1 in
    subst (λ (y : ℕ × List ℕ). Takes IsDigit rest y) same
    (record { bytes = a.0.0 ∷ []; parts = low_char rest a.0 a.0.0 a.1 refl (digit_low a.0.0 yes.0); is = (a.0.0, yes.0, refl, refl) }))
    (λ other. absurd (not_ok x (BadEscape, start) other.1))
    (chosen (is_digit a.0.0 16) (Ok (digit_value a.0.0, a.0.1)) (Err (BadEscape, start)) (Ok x) a.2)

all_hex : (w x y z : ℕ) → is_digit w 16 ≡ true → is_digit x 16 ≡ true → is_digit y 16 ≡ true → is_digit z 16 ≡ true → IsTrue (list_all is_hex (w ∷ x ∷ y ∷ z ∷ []))
all_hex w x y z e f g h = rw (e, f, g, h) refl

same_sum : (a b c d w x y z : ℕ) → a ≡ w → b ≡ x → c ≡ y → d ≡ z → 4096 * a + 256 * b + 16 * c + d ≡ 4096 * w + 256 * x + 16 * y + z
same_sum a b c d w x y z e f g h = rw (e, f, g, h) refl

pub four_digits_taken : (start rest : List ℕ) (x : ℕ × List ℕ) → four_digits_at start rest ≡ Ok x → Takes FourDigits rest x
unfolding four_digits_at
four_digits_taken start rest x e =
    let p = bind_ok (digit_at start rest) (λ (a : ℕ × List ℕ). digit_at start a.1 >>= λ (b : ℕ × List ℕ). digit_at start b.1 >>= λ (c : ℕ × List ℕ). digit_at start c.1 >>= λ (d : ℕ × List ℕ). Ok (4096 * a.0 + 256 * b.0 + 16 * c.0 + d.0, d.1)) x e in
    let a = p.0 in
    let q = bind_ok (digit_at start a.1) (λ (b : ℕ × List ℕ). digit_at start b.1 >>= λ (c : ℕ × List ℕ). digit_at start c.1 >>= λ (d : ℕ × List ℕ). Ok (4096 * a.0 + 256 * b.0 + 16 * c.0 + d.0, d.1)) x p.2 in
    let b = q.0 in
    let r = bind_ok (digit_at start b.1) (λ (c : ℕ × List ℕ). digit_at start c.1 >>= λ (d : ℕ × List ℕ). Ok (4096 * a.0 + 256 * b.0 + 16 * c.0 + d.0, d.1)) x q.2 in
    let c = r.0 in
    let s = bind_ok (digit_at start c.1) (λ (d : ℕ × List ℕ). Ok (4096 * a.0 + 256 * b.0 + 16 * c.0 + d.0, d.1)) x r.2 in
    let d = s.0 in
    let ta = digit_taken start rest a p.1 in
    let tb = digit_taken start a.1 b q.1 in
    let tc = digit_taken start b.1 c r.1 in
    let td = digit_taken start c.1 d s.1 in
    let w = ta.is.0 in let x' = tb.is.0 in let y = tc.is.0 in let z = td.is.0 in
    let parts : rest ≡ w ∷ x' ∷ y ∷ z ∷ d.1 =
    ta.parts ∙ ap (λ (t : List ℕ). t ++ a.1) ta.is.2 ∙ ap (λ (t : List ℕ). w ∷ t) (tb.parts ∙ ap (λ (t : List ℕ). t ++ b.1) tb.is.2
    ∙ ap (λ (t : List ℕ). x' ∷ t) (tc.parts ∙ ap (λ (t : List ℕ). t ++ c.1) tc.is.2 ∙ ap (λ (t : List ℕ). y ∷ t) (td.parts ∙ ap (λ (t : List ℕ). t ++ d.1) td.is.2))) in
    let sum : 4096 * a.0 + 256 * b.0 + 16 * c.0 + d.0 ≡ 4096 * digit_value w + 256 * digit_value x' + 16 * digit_value y + digit_value z = same_sum a.0 b.0 c.0 d.0 (digit_value w) (digit_value x') (digit_value y) (digit_value z) ta.is.3 tb.is.3 tc.is.3 td.is.3 in
    subst (λ (v : ℕ × List ℕ). Takes FourDigits rest v) (ok_is (4096 * a.0 + 256 * b.0 + 16 * c.0 + d.0, d.1) x s.2)
    (record { bytes = w ∷ x' ∷ y ∷ z ∷ []; parts = parts; is = (w, x', y, z, all_hex w x' y z ta.is.1 tb.is.1 tc.is.1 td.is.1, refl, sum) })

pub eight_digits_taken : (start rest : List ℕ) (x : ℕ × List ℕ) → eight_digits_at start rest ≡ Ok x → Takes EightDigits rest x
unfolding eight_digits_at
eight_digits_taken start rest x e =
    let p = bind_ok (four_digits_at start rest) (λ (h : ℕ × List ℕ). four_digits_at start h.1 >>= λ (l : ℕ × List ℕ). Ok (65536 * h.0 + l.0, l.1)) x e in
    let h = p.0 in
    let q = bind_ok (four_digits_at start h.1) (λ (l : ℕ × List ℕ). Ok (65536 * h.0 + l.0, l.1)) x p.2 in
    let l = q.0 in
    let th = four_digits_taken start rest h p.1 in
    let tl = four_digits_taken start h.1 l q.1 in
    let parts : rest ≡ (th.bytes ++ tl.bytes) ++ l.1 = th.parts ∙ ap (λ (t : List ℕ). th.bytes ++ t) tl.parts ∙ sym (append_assoc th.bytes tl.bytes l.1) in
    subst (λ (v : ℕ × List ℕ). Takes EightDigits rest v) (ok_is (65536 * h.0 + l.0, l.1) x q.2)
    (record { bytes = th.bytes ++ tl.bytes; parts = parts; is = (th.bytes, tl.bytes, h.0, l.0, th.is, tl.is, refl, refl) })

-- the letter of a UCHAR and its digits
abbrev pub IsCode : ℕ → List ℕ → ℕ → Type 0
IsCode letter bytes n = ((letter ≡ 117) × FourDigits bytes n) ⊎ ((letter ≡ 85) × EightDigits bytes n)

pub code_taken : (start rest : List ℕ) (letter : ℕ) (x : ℕ × List ℕ) → code_at start letter rest ≡ Ok x → Takes (IsCode letter) rest x
unfolding code_at
code_taken start rest letter x e =
    ⊎_elim
    (λ small.
    let t = four_digits_taken start rest x small.1 in
    record { bytes = t.bytes; parts = t.parts; is = inl (eqb-true letter 117 small.0, t.is) })
    (λ other. ⊎_elim
    (λ big.
    let t = eight_digits_taken start rest x big.1 in
    record { bytes = t.bytes; parts = t.parts; is = inr (eqb-true letter 85 big.0, t.is) })
    (λ neither. absurd (not_ok x (BadEscape, start) neither.1))
    (chosen (nat_eq letter 85) (eight_digits_at start rest) (Err (BadEscape, start)) (Ok x) other.1))
    (chosen (nat_eq letter 117) (four_digits_at start rest) (cond (nat_eq letter 85) (eight_digits_at start rest) (Err (BadEscape, start))) (Ok x) e)

-- what follows the backslash of a UCHAR
abbrev pub IsUcharTail : List ℕ → ℕ → Type 0
IsUcharTail bytes c = IsUchar (92 ∷ bytes) c

pub uchar_taken : (start rest : List ℕ) (x : ℕ × List ℕ) → uchar_at start rest ≡ Ok x → Takes IsUcharTail rest x
unfolding uchar_at
uchar_taken start rest x e =
    let p = bind_ok (char_at rest) (λ (letter : ℕ × List ℕ). code_at start letter.0 letter.1 >>= λ (code : ℕ × List ℕ). cond (scalar code.0) (Ok code) (Err (BadEscape, start))) x e in
    let letter = p.0 in
    let q = bind_ok (code_at start letter.0 letter.1) (λ (code : ℕ × List ℕ). cond (scalar code.0) (Ok code) (Err (BadEscape, start))) x p.2 in
    let t = code_taken start letter.1 letter.0 q.0 q.1 in
    ⊎_elim
    (λ yes.
    subst (λ (v : ℕ × List ℕ). Takes IsUcharTail rest v) (ok_is q.0 x yes.1) (⊎_elim
    (λ small. record { bytes = 117 ∷ t.bytes; parts = low_char rest letter 117 p.1 small.0 (omega arith) ∙ ap (λ (u : List ℕ). 117 ∷ u) t.parts; is = (yes.0, inl (t.bytes, small.1, refl)) })
    (λ big. record { bytes = 85 ∷ t.bytes; parts = low_char rest letter 85 p.1 big.0 (omega arith) ∙ ap (λ (u : List ℕ). 85 ∷ u) t.parts; is = (yes.0, inr (t.bytes, big.1, refl)) })
    t.is))
    (λ other. absurd (not_ok x (BadEscape, start) other.1))
    (chosen (scalar q.0.0) (Ok q.0) (Err (BadEscape, start)) (Ok x) q.2)

-- a piece of an IRI, or its end
abbrev pub IriPieceOrEnd : List ℕ → Option ℕ → Type 0
IriPieceOrEnd bytes None = bytes ≡ 62 ∷ []
IriPieceOrEnd bytes (Some c) = IriPiece bytes c

pub iri_piece_taken : (rest : List ℕ) (x : Option ℕ × List ℕ) → iri_piece rest ≡ Ok x → Takes IriPieceOrEnd rest x
unfolding iri_piece
iri_piece_taken rest x e =
    let p = bind_ok (char_at rest) (λ (d : ℕ × List ℕ). cond (nat_eq d.0 62) (Ok (None, d.1))
    (cond (nat_eq d.0 92) (uchar_at rest d.1 >>= λ (u : ℕ × List ℕ). cond (is_forbidden u.0) (Err (BadIri, rest)) (Ok (Some u.0, u.1)))
    (cond (is_forbidden d.0) (Err (BadIri, rest)) (Ok (Some d.0, d.1))))) x e in
    let d = p.0 in
    ⊎_elim
    (λ ends.
    subst (λ (v : Option ℕ × List ℕ). Takes IriPieceOrEnd rest v) (ok_is (None, d.1) x ends.1)
    (record { bytes = 62 ∷ []; parts = low_char rest d 62 p.1 (eqb-true d.0 62 ends.0) (omega arith); is = refl }))
    (λ goes. ⊎_elim
    (λ escape.
    let q = bind_ok (uchar_at rest d.1) (λ (u : ℕ × List ℕ). cond (is_forbidden u.0) (Err (BadIri, rest)) (Ok (Some u.0, u.1))) x escape.1 in
    let u = q.0 in
    let t = uchar_taken rest d.1 u q.1 in
    ⊎_elim
    (λ bad. absurd (not_ok x (BadIri, rest) bad.1))
    (λ ok. subst (λ (v : Option ℕ × List ℕ). Takes IriPieceOrEnd rest v) (ok_is (Some u.0, u.1) x ok.1)
    (record { bytes = 92 ∷ t.bytes; parts = low_char rest d 92 p.1 (eqb-true d.0 92 escape.0) (omega arith) ∙ ap (λ (s : List ℕ). 92 ∷ s) t.parts; is = (ok.0, inr t.is) }))
    (chosen (is_forbidden u.0) (Err (BadIri, rest)) (Ok (Some u.0, u.1)) (Ok x) q.2))
    (λ plain. ⊎_elim
    (λ bad. absurd (not_ok x (BadIri, rest) bad.1))
    (λ ok.
    let t = char_taken rest d p.1 in
    subst (λ (v : Option ℕ × List ℕ). Takes IriPieceOrEnd rest v) (ok_is (Some d.0, d.1) x ok.1)
    (record { bytes = t.bytes; parts = t.parts; is = (ok.0, inl t.is) }))
    (chosen (is_forbidden d.0) (Err (BadIri, rest)) (Ok (Some d.0, d.1)) (Ok x) plain.1))
    (chosen (nat_eq d.0 92) (uchar_at rest d.1 >>= λ (u : ℕ × List ℕ). cond (is_forbidden u.0) (Err (BadIri, rest)) (Ok (Some u.0, u.1))) (cond (is_forbidden d.0) (Err (BadIri, rest)) (Ok (Some d.0, d.1))) (Ok x) goes.1))
    (chosen (nat_eq d.0 62) (Ok (None, d.1)) (cond (nat_eq d.0 92) (uchar_at rest d.1 >>= λ (u : ℕ × List ℕ). cond (is_forbidden u.0) (Err (BadIri, rest)) (Ok (Some u.0, u.1))) (cond (is_forbidden d.0) (Err (BadIri, rest)) (Ok (Some d.0, d.1)))) (Ok x) p.2)

-- ---- the other way round: what is spelled so is read

pub digit_again : (start : List ℕ) (c : ℕ) (rest : List ℕ) → is_digit c 16 ≡ true → digit_at start (c ∷ rest) ≡ Ok (digit_value c, rest)
unfolding digit_at
digit_again start c rest e = rw (char_at-ascii c rest (digit_low c e), e) refl

pub hex_parts : (w x y z : ℕ) → IsTrue (list_all is_hex (w ∷ x ∷ y ∷ z ∷ [])) → (is_digit w 16 ≡ true) × (is_digit x 16 ≡ true) × (is_digit y 16 ≡ true) × (is_digit z 16 ≡ true)
hex_parts w x y z e =
    let a = and_parts (is_hex w) (list_all is_hex (x ∷ y ∷ z ∷ [])) e in
    let b = and_parts (is_hex x) (list_all is_hex (y ∷ z ∷ [])) a.1 in
    let c = and_parts (is_hex y) (list_all is_hex (z ∷ [])) b.1 in
    let d = and_parts (is_hex z) true c.1 in
    (a.0, b.0, c.0, d.0)

pub four_digits_again : (start digits : List ℕ) (n : ℕ) (rest : List ℕ) → FourDigits digits n → four_digits_at start (digits ++ rest) ≡ Ok (n, rest)
unfolding four_digits_at
four_digits_again start digits n rest f =
    let w = f.0 in let x = f.1 in let y = f.2 in let z = f.3 in
    let h = hex_parts w x y z f.4 in
    let shape : digits ++ rest ≡ w ∷ x ∷ y ∷ z ∷ rest = ap (λ (t : List ℕ). t ++ rest) f.5 in
    let read : four_digits_at start (w ∷ x ∷ y ∷ z ∷ rest) ≡ Ok (4096 * digit_value w + 256 * digit_value x + 16 * digit_value y + digit_value z, rest) =
    rw (digit_again start w (x ∷ y ∷ z ∷ rest) h.0, digit_again start x (y ∷ z ∷ rest) h.1, digit_again start y (z ∷ rest) h.2, digit_again start z rest h.3) refl in
    ap (four_digits_at start) shape ∙ read ∙ ap (λ (m : ℕ). Ok (m, rest)) (sym f.6)

pub eight_digits_again : (start digits : List ℕ) (n : ℕ) (rest : List ℕ) → EightDigits digits n → eight_digits_at start (digits ++ rest) ≡ Ok (n, rest)
unfolding eight_digits_at
eight_digits_again start digits n rest f =
    let high = f.0 in let low = f.1 in let h = f.2 in let l = f.3 in
    let shape : digits ++ rest ≡ high ++ (low ++ rest) = ap (λ (t : List ℕ). t ++ rest) f.6 ∙ append_assoc high low rest in
    let read : eight_digits_at start (high ++ (low ++ rest)) ≡ Ok (65536 * h + l, rest) = rw (four_digits_again start high h (low ++ rest) f.4, four_digits_again start low l rest f.5) refl in
    ap (eight_digits_at start) shape ∙ read ∙ ap (λ (m : ℕ). Ok (m, rest)) (sym f.7)

pub uchar_again : (start bytes : List ℕ) (c : ℕ) (rest : List ℕ) → IsUcharTail bytes c → uchar_at start (bytes ++ rest) ≡ Ok (c, rest)
unfolding uchar_at code_at
uchar_again start bytes c rest u =
    ⊎_elim
    (λ small.
    let tail : bytes ≡ 117 ∷ small.0 = cc in
    ap (λ (t : List ℕ). uchar_at start (t ++ rest)) tail ∙ rw (char_at-ascii 117 (small.0 ++ rest) (omega arith), four_digits_again start small.0 c rest small.1, u.0) refl)
    (λ big.
    let tail : bytes ≡ 85 ∷ big.0 = cc in
    ap (λ (t : List ℕ). uchar_at start (t ++ rest)) tail ∙ rw (char_at-ascii 85 (big.0 ++ rest) (omega arith), eight_digits_again start big.0 c rest big.1, u.0) refl)
    u.1

-- a UCHAR begins with its backslash
pub uchar_shape : (bytes : List ℕ) (c : ℕ) → IsUchar bytes c → (tail : List ℕ) × (bytes ≡ 92 ∷ tail) × IsUcharTail tail c
uchar_shape bytes c u =
    ⊎_elim
    (λ small. (117 ∷ small.0, small.2, (u.0, inl (small.0, small.1, refl))))
    (λ big. (85 ∷ big.0, big.2, (u.0, inr (big.0, big.1, refl))))
    u.1

not_this : (c d : ℕ) → is_forbidden c ≡ false → is_forbidden d ≡ true → nat_eq c d ≡ false
not_this c d e f = ne_eqb c d (λ same. false≢true (sym e ∙ ap is_forbidden same ∙ f))

pub iri_piece_again : (front : List ℕ) (c : ℕ) (rest : List ℕ) → IriPiece front c → iri_piece (front ++ rest) ≡ Ok (Some c, rest)
unfolding iri_piece
iri_piece_again front c rest p =
    ⊎_elim
    (λ plain.
    ap (λ (t : List ℕ). iri_piece (t ++ rest)) plain.1
    ∙ rw (char_again c rest plain.0, p.0, not_this c 62 p.0 refl, not_this c 92 p.0 refl) refl)
    (λ escape.
    let s = uchar_shape front c escape in
    ap (λ (t : List ℕ). iri_piece (t ++ rest)) s.1
    ∙ rw (char_at-ascii 92 (s.0 ++ rest) (omega arith), uchar_again (92 ∷ s.0 ++ rest) s.0 c rest s.2, p.0) refl)
    p.1
