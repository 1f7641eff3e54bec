-- What is read stays as it is with more text behind, unless reading met the end of the text: characters, escapes, IRIREFs and strings.
use Rattle.std.proofs.Common.{◌≡◌, ℕ, zero, suc, ◌+◌, ◌-◌, ◌<◌, ◌≤◌, Bool, true, false, cond, List, [], ◌∷◌, ◌++◌, length, get_or, Option, Some, None, Ok, Err, nat_eq, refl, sym, ap, subst, ◌∙◌, ◌⊎◌, inl, inr, arith, drop, ◌*◌, ◌||◌, ◌&&◌, is_none}
use Rattle.std.specs.Char.{is_digit, digit_value}
use Rattle.std.proofs.lemmas.Bool.{cases_eq, eqb-false}
use Rattle.std.proofs.lemmas.Bool.Decides.{nat_tests}
use Rattle.std.proofs.lemmas.List.{length-append, get_or_append_left}
use Rattle.bstr.specs.Utf8.{Decoded, decoded, decoded_by, second, continues}
use Rattle.bstr.proofs.lemmas.PieceLemmas.{by-shape, value-2, value-3, value-5, value-8, value-11, piece-bounds}
use Rattle.rdf_terms.specs.Iri.{is_forbidden, has_scheme}
use Rattle.nquads_text.specs.declared.fault.TextKind.{TextKind}
use Rattle.nquads_text.specs.declared.fault.TextKind.TheVariants.{NotUtf8, BadIri, RelativeIri, BadEscape, BadToken}
use Rattle.nquads_text.specs.Fault.{TextRead, ◌>>=◌}
use Rattle.nquads_text.specs.Reading.{char_at, digit_at, four_digits_at, eight_digits_at, code_at, uchar_at, iri_piece, string_piece, short_or_uchar, with_front, behind, pieces_at}
use Rattle.nquads_text.specs.Terms.{iri_at}
use Rattle.nquads_text.specs.Grammar.{echar}
use lib.Utf8.{scalar}
use Rattle.patch_rows.specs.Cut.{leads, is_front, ends_text, TextAtEnd}
pub use Rattle.patch_rows.proofs.GapSteps.{ok_char}

-- ---- one reading behind another

-- what is read, with more text behind
abbrev pub with_more : {X : Type 0} → List ℕ → TextRead X → TextRead X
with_more more (Ok x) = Ok (x.0, x.1 ++ more)
with_more more (Err f) = Err (f.0, f.1 ++ more)

-- reading met the end, or it gives the same with more text
abbrev pub Stays : {X : Type 0} → List ℕ → TextRead X → TextRead X → Type 0
Stays more read longer = TextAtEnd read ⊎ (longer ≡ with_more more read)

pub stays_then : {X Y : Type 0} (more : List ℕ) (r longer : TextRead X) (f g : X × List ℕ → TextRead Y)
    → Stays more r longer → ((x : X × List ℕ) → r ≡ Ok x → Stays more (f x) (g (x.0, x.1 ++ more))) → Stays more (r >>= f) (longer >>= g)
stays_then more (Ok x) longer f g (inl h) step = absurd h
stays_then more (Ok x) longer f g (inr h) step = rw h (step x refl)
stays_then more (Err e) longer f g (inl h) step = inl h
stays_then more (Err e) longer f g (inr h) step = inr (rw h refl)

pub stays_if : {X : Type 0} (more : List ℕ) (b : Bool) (x y f g : TextRead X) → Stays more x f → Stays more y g → Stays more (cond b x y) (cond b f g)
stays_if more true x y f g h k = h
stays_if more false x y f g h k = k

pub ok_stays : {X : Type 0} (more : List ℕ) (x : X) (after : List ℕ) → Stays more (Ok (x, after)) (Ok (x, after ++ more))
ok_stays more x after = inr refl

pub err_stays : {X : Type 0} (more : List ℕ) (kind : TextKind) (place : List ℕ) → Stays {X = X} more (Err (kind, place)) (Err (kind, place ++ more))
err_stays more kind place = inr refl

-- ---- a character

-- bytes that begin no character, and aren't the front of one, stay so
bad_stays : (k n b c d e c' d' e' : ℕ) → (decoded_by k b c d e).char ≡ None → ((0xC1 < b → b < 0xF5 → (decoded_by k b c d e).size < k)) → 0 < k → k ≤ n
    → (1 < k → c' ≡ c) → (2 < k → d' ≡ d) → (3 < k → e' ≡ e) → decoded_by n b c' d' e' ≡ decoded_by k b c d e
bad_stays k n b c d e c' d' e' none short some le second_c third_d fourth_e =
    let char = λ (p : Decoded) (is : decoded_by k b c d e ≡ p). sym (ap (λ (q : Decoded). q.char) is) ∙ none in
    by-shape k b c d e
    (λ h. absurd (omega (arith, h.0, some)))
    (λ h. let some = char _ h.2 in absurd cc)
    (λ h. value-2 n b c' d' e' (omega arith, h.1, h.2) ∙ sym h.3)
    (λ h. value-3 n b c' d' e' (omega arith, h.1) ∙ sym h.2)
    (λ h. let size_is = ap (λ (p : Decoded). p.size) h.4 in let lt = short (omega arith) (omega arith) in absurd (omega (arith, size_is, lt)))
    (λ h. let size_is = ap (λ (p : Decoded). p.size) h.4 in value-5 n b c' d' e' (omega arith, h.1, h.2, ap (second b) (second_c (omega arith)) ∙ h.3) ∙ sym h.4)
    (λ h. let some = char _ h.4 in absurd cc)
    (λ h. let size_is = ap (λ (p : Decoded). p.size) h.5 in let lt = short (omega arith) (omega arith) in absurd (omega (arith, size_is, lt)))
    (λ h. let size_is = ap (λ (p : Decoded). p.size) h.5 in value-8 n b c' d' e' (omega arith, h.1, h.2, ap (second b) (second_c (omega arith)) ∙ h.3, ap continues (third_d (omega arith)) ∙ h.4) ∙ sym h.5)
    (λ h. let some = char _ h.5 in absurd cc)
    (λ h. let size_is = ap (λ (p : Decoded). p.size) h.6 in let lt = short (omega arith) (omega arith) in absurd (omega (arith, size_is, lt)))
    (λ h. let size_is = ap (λ (p : Decoded). p.size) h.6 in value-11 n b c' d' e' (omega arith, h.1, h.2, ap (second b) (second_c (omega arith)) ∙ h.3, ap continues (third_d (omega arith)) ∙ h.4, ap continues (fourth_e (omega arith)) ∙ h.5) ∙ sym h.6)
    (λ h. let some = char _ h.6 in absurd cc)

pub bad_char : (b : ℕ) (bs : List ℕ) → (decoded (b ∷ bs)).char ≡ None → char_at (b ∷ bs) ≡ Err (NotUtf8, b ∷ bs)
unfolding char_at
bad_char b bs e = rw e refl

pub good_char : (b : ℕ) (bs : List ℕ) (c : ℕ) → (decoded (b ∷ bs)).char ≡ Some c → char_at (b ∷ bs) ≡ Ok (c, drop (decoded (b ∷ bs)).size (b ∷ bs))
unfolding char_at
good_char b bs c e = rw e refl

is_led : (b : ℕ) → 0xC1 < b → b < 0xF5 → leads b ≡ true
is_led b low high = grind (arith, nat_tests, low, high)

-- the tests of a front, taken apart
front_size : (b : ℕ) (bs : List ℕ) → (decoded (b ∷ bs)).char ≡ None → is_front (b ∷ bs) ≡ false → 0xC1 < b → b < 0xF5 → (decoded (b ∷ bs)).size < length (b ∷ bs)
front_size b bs none shut low high =
    let bounds = piece-bounds (b ∷ bs) (omega arith) in
    let l : leads b ≡ true = is_led b low high in
    let n : is_none (decoded (b ∷ bs)).char ≡ true = ap is_none none in
    let whole : nat_eq (decoded (b ∷ bs)).size (length (b ∷ bs)) ≡ false = parts l n shut in
    let ne : ((decoded (b ∷ bs)).size ≡ length (b ∷ bs)) → ⊥ = eqb-false (decoded (b ∷ bs)).size (length (b ∷ bs)) whole in
    elim (cases_eq (decoded (b ∷ bs)).size (length (b ∷ bs))) [
      | inl e ↦ absurd (ne e)
      | inr other ↦ omega (arith, bounds, other)
    ]
  where
    parts : {x y z : Bool} → x ≡ true → y ≡ true → (x && (y && z)) ≡ false → z ≡ false
    parts {x} {y} {z} e f g = subst (λ (t : Bool). (t && z) ≡ false) f (subst (λ (t : Bool). (t && (y && z)) ≡ false) e g)

pub still_bad : (b : ℕ) (bs more : List ℕ) → (decoded (b ∷ bs)).char ≡ None → is_front (b ∷ bs) ≡ false → decoded ((b ∷ bs) ++ more) ≡ decoded (b ∷ bs)
still_bad b bs more none shut =
    let xs : List ℕ = b ∷ bs in
    bad_stays (length xs) (length (xs ++ more)) b (get_or xs 1 0) (get_or xs 2 0) (get_or xs 3 0) (get_or (xs ++ more) 1 0) (get_or (xs ++ more) 2 0) (get_or (xs ++ more) 3 0)
    none (front_size b bs none shut) (omega arith) (omega (arith, length-append xs more))
    (λ lt. get_or_append_left xs more 0 1 lt) (λ lt. get_or_append_left xs more 0 2 lt) (λ lt. get_or_append_left xs more 0 3 lt)

char_by : (more : List ℕ) (b : ℕ) (bs : List ℕ) (o : Option ℕ) (cut : Bool) → (decoded (b ∷ bs)).char ≡ o → is_front (b ∷ bs) ≡ cut → Stays more (char_at (b ∷ bs)) (char_at ((b ∷ bs) ++ more))
unfolding ends_text
char_by more b bs (Some c) cut e f =
    let is = good_char b bs c e in
    subst (λ (r : TextRead ℕ). Stays more r (char_at ((b ∷ bs) ++ more))) (sym is) (inr (ok_char (b ∷ bs) c (drop (decoded (b ∷ bs)).size (b ∷ bs)) more is))
char_by more b bs None true e f =
    subst (λ (r : TextRead ℕ). Stays more r (char_at ((b ∷ bs) ++ more))) (sym (bad_char b bs e)) (inl (at_front f))
  where
    at_front : is_front (b ∷ bs) ≡ true → ends_text NotUtf8 (b ∷ bs) ≡ true
    at_front f = f
char_by more b bs None false e f =
    subst (λ (r : TextRead ℕ). Stays more r (char_at ((b ∷ bs) ++ more))) (sym (bad_char b bs e))
    (inr (bad_char b (bs ++ more) (ap (λ (d : Decoded). d.char) (still_bad b bs more e f) ∙ e)))

pub char_stays : (more rest : List ℕ) → Stays more (char_at rest) (char_at (rest ++ more))
unfolding char_at ends_text
char_stays more [] = inl refl
char_stays more (b ∷ bs) = char_by more b bs (decoded (b ∷ bs)).char (is_front (b ∷ bs)) refl refl

-- ---- escapes, and the pieces of an IRI and of a string

digit_stays : (more start rest : List ℕ) → Stays more (digit_at start rest) (digit_at (start ++ more) (rest ++ more))
unfolding digit_at
digit_stays more start rest = stays_then more (char_at rest) (char_at (rest ++ more)) _ _ (char_stays more rest)
    (λ x e. stays_if more (is_digit x.0 16) _ _ _ _ (ok_stays more (digit_value x.0) x.1) (err_stays more BadEscape start))

four_digits_stay : (more start rest : List ℕ) → Stays more (four_digits_at start rest) (four_digits_at (start ++ more) (rest ++ more))
unfolding four_digits_at
four_digits_stay more start rest =
    stays_then more (digit_at start rest) (digit_at (start ++ more) (rest ++ more)) _ _ (digit_stays more start rest) (λ a ea.
    stays_then more (digit_at start a.1) (digit_at (start ++ more) (a.1 ++ more)) _ _ (digit_stays more start a.1) (λ b eb.
    stays_then more (digit_at start b.1) (digit_at (start ++ more) (b.1 ++ more)) _ _ (digit_stays more start b.1) (λ c ec.
    stays_then more (digit_at start c.1) (digit_at (start ++ more) (c.1 ++ more)) _ _ (digit_stays more start c.1) (λ d ed.
    ok_stays more (4096 * a.0 + 256 * b.0 + 16 * c.0 + d.0) d.1))))

eight_digits_stay : (more start rest : List ℕ) → Stays more (eight_digits_at start rest) (eight_digits_at (start ++ more) (rest ++ more))
unfolding eight_digits_at
eight_digits_stay more start rest =
    stays_then more (four_digits_at start rest) (four_digits_at (start ++ more) (rest ++ more)) _ _ (four_digits_stay more start rest) (λ h eh.
    stays_then more (four_digits_at start h.1) (four_digits_at (start ++ more) (h.1 ++ more)) _ _ (four_digits_stay more start h.1) (λ l el.
    ok_stays more (65536 * h.0 + l.0) l.1))

code_stays : (more start rest : List ℕ) (letter : ℕ) → Stays more (code_at start letter rest) (code_at (start ++ more) letter (rest ++ more))
unfolding code_at
code_stays more start rest letter =
    stays_if more (nat_eq letter 117) _ _ _ _ (four_digits_stay more start rest)
    (stays_if more (nat_eq letter 85) _ _ _ _ (eight_digits_stay more start rest) (err_stays more BadEscape start))

uchar_stays : (more start rest : List ℕ) → Stays more (uchar_at start rest) (uchar_at (start ++ more) (rest ++ more))
unfolding uchar_at
uchar_stays more start rest =
    stays_then more (char_at rest) (char_at (rest ++ more)) _ _ (char_stays more rest) (λ l el.
    stays_then more (code_at start l.0 l.1) (code_at (start ++ more) l.0 (l.1 ++ more)) _ _ (code_stays more start l.1 l.0) (λ c ec.
    stays_if more (scalar c.0) _ _ _ _ (ok_stays more c.0 c.1) (err_stays more BadEscape start)))

short_stays : (more : List ℕ) (o : Option ℕ) (start rest after : List ℕ) → Stays more (short_or_uchar o start rest after) (short_or_uchar o (start ++ more) (rest ++ more) (after ++ more))
short_stays more (Some c) start rest after = ok_stays more (Some c) after
short_stays more None start rest after =
    stays_then more (uchar_at start rest) (uchar_at (start ++ more) (rest ++ more)) _ _ (uchar_stays more start rest) (λ u eu. ok_stays more (Some u.0) u.1)

pub string_piece_stays : (more rest : List ℕ) → Stays more (string_piece rest) (string_piece (rest ++ more))
unfolding string_piece
string_piece_stays more rest =
    stays_then more (char_at rest) (char_at (rest ++ more)) _ _ (char_stays more rest) (λ c ec.
    stays_if more (nat_eq c.0 34) _ _ _ _ (ok_stays more None c.1)
    (stays_if more (nat_eq c.0 92) _ _ _ _
    (stays_then more (char_at c.1) (char_at (c.1 ++ more)) _ _ (char_stays more c.1) (λ l el. short_stays more (echar l.0) rest c.1 l.1))
    (stays_if more (nat_eq c.0 10 || nat_eq c.0 13) _ _ _ _ (err_stays more BadToken rest) (ok_stays more (Some c.0) c.1))))

pub iri_piece_stays : (more rest : List ℕ) → Stays more (iri_piece rest) (iri_piece (rest ++ more))
unfolding iri_piece
iri_piece_stays more rest =
    stays_then more (char_at rest) (char_at (rest ++ more)) _ _ (char_stays more rest) (λ c ec.
    stays_if more (nat_eq c.0 62) _ _ _ _ (ok_stays more None c.1)
    (stays_if more (nat_eq c.0 92) _ _ _ _
    (stays_then more (uchar_at rest c.1) (uchar_at (rest ++ more) (c.1 ++ more)) _ _ (uchar_stays more rest c.1) (λ u eu.
    stays_if more (is_forbidden u.0) _ _ _ _ (err_stays more BadIri rest) (ok_stays more (Some u.0) u.1)))
    (stays_if more (is_forbidden c.0) _ _ _ _ (err_stays more BadIri rest) (ok_stays more (Some c.0) c.1))))

-- ---- pieces up to the one that ends them

pub front_stays : (more front : List ℕ) (r longer : TextRead (List ℕ)) → Stays more r longer → Stays more (with_front front r) (with_front front longer)
front_stays more front r longer h = stays_then more r longer (λ x. Ok (front ++ x.0, x.1)) (λ x. Ok (front ++ x.0, x.1)) h (λ x e. ok_stays more (front ++ x.0) x.1)

behind_stays : (more : List ℕ) (o : Option ℕ) (after : List ℕ) (r longer : TextRead (List ℕ)) → Stays more r longer → Stays more (behind o after r) (behind o (after ++ more) longer)
behind_stays more None after r longer h = ok_stays more [] after
behind_stays more (Some c) after r longer h = front_stays more _ r longer h

pub rooms_same : (rest after more : List ℕ) → length (rest ++ more) - length (after ++ more) ≡ length rest - length after
rooms_same rest after more = omega (arith, length-append rest more, length-append after more)

pub pieces_stay : (piece : List ℕ → TextRead (Option ℕ)) (more : List ℕ) → ((rest : List ℕ) → Stays more (piece rest) (piece (rest ++ more)))
    → (skip : ℕ) (rest : List ℕ) → Stays more (pieces_at piece skip rest) (pieces_at piece skip (rest ++ more))
unfolding pieces_at ends_text
pieces_stay piece more each zero [] = inl refl
pieces_stay piece more each (suc skip) [] = inl refl
pieces_stay piece more each (suc skip) (b ∷ rest) = pieces_stay piece more each skip rest
pieces_stay piece more each zero (b ∷ rest) =
    stays_then more (piece (b ∷ rest)) (piece (b ∷ (rest ++ more))) _ _ (each (b ∷ rest)) (λ x e.
    behind_stays more x.0 x.1 (pieces_at piece (length rest - length x.1) rest) (pieces_at piece (length (rest ++ more) - length (x.1 ++ more)) (rest ++ more))
    (subst (λ (k : ℕ). Stays more (pieces_at piece (length rest - length x.1) rest) (pieces_at piece k (rest ++ more))) (sym (rooms_same rest x.1 more))
    (pieces_stay piece more each (length rest - length x.1) rest)))

pub iri_body_stays : (more rest : List ℕ) → Stays more (pieces_at iri_piece 0 rest) (pieces_at iri_piece 0 (rest ++ more))
iri_body_stays more rest = pieces_stay iri_piece more (iri_piece_stays more) 0 rest

pub string_body_stays : (more rest : List ℕ) → Stays more (pieces_at string_piece 0 rest) (pieces_at string_piece 0 (rest ++ more))
string_body_stays more rest = pieces_stay string_piece more (string_piece_stays more) 0 rest

pub iri_stays : (more start rest : List ℕ) → Stays more (iri_at start rest) (iri_at (start ++ more) (rest ++ more))
unfolding iri_at
iri_stays more start rest =
    stays_then more (pieces_at iri_piece 0 rest) (pieces_at iri_piece 0 (rest ++ more)) _ _ (iri_body_stays more rest) (λ x e.
    stays_if more (has_scheme x.0) _ _ _ _ (ok_stays more x.0 x.1) (err_stays more RelativeIri start))
