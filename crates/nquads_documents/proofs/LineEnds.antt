-- What follows a statement on its line is read exactly where the grammar has blanks, and a comment or nothing.
use Rattle.std.proofs.Common.{◌≡◌, ℕ, zero, suc, ◌+◌, ◌-◌, ◌<◌, ◌≤◌, Bool, true, false, cond, not, ◌||◌, List, [], ◌∷◌, ◌++◌, length, drop, get_or, Ok, Err, nat_eq, refl, sym, ap, subst, ◌∙◌, ◌⊎◌, inl, inr, ⊎_elim, arith, append_assoc}
use Rattle.std.specs.List.{list_all}
use Rattle.std.specs.Str.{encode_utf8_all, IsUtf8}
use Rattle.std.specs.Char.{encode_utf8, IsScalar}
use Rattle.std.proofs.lemmas.Bool.{and_parts, false≢true, eqb-true, cases_lt, ne_eqb}
use Rattle.std.proofs.lemmas.List.{append-nil, length-append, length-drop, drop_at}
use Rattle.std.proofs.lemmas.List.Folds.{list_all-append}
use Rattle.std.proofs.lemmas.Str.{encode_ascii, inside_one, length-encode, len_utf8_bounds, IsUtf8-append, IsUtf8-encode, IsUtf8-nil, byte_from_char}
use lib.Utf8.{scalar, scalars}
use Rattle.nquads_text.specs.declared.fault.TextKind.TheVariants.{BadToken}
use Rattle.nquads_text.specs.Fault.{TextRead, ◌>>=◌}
use Rattle.nquads_text.specs.Reading.{char_at}
use Rattle.nquads_text.specs.Terms.{skip_blanks}
use Rattle.nquads_text.proofs.Fronts.{char_spelled, char_again}
use Rattle.nquads_text.proofs.Steps.{bind_ok, chosen, ok_is, not_ok}
use Rattle.nquads_text.specs.Grammar.{is_blank, StartsWith, Blanks}
use Rattle.nquads_documents.specs.Grammar.{IsEmptyLine}
use Rattle.nquads_text.specs.Grammar.{is_line_end}
use Rattle.nquads_documents.specs.Reading.{comment_at, no_end_at, end_by, line_end_at}
use Rattle.nquads_documents.proofs.BlankLaws.{blanks_found, skip_again}

-- the text's end, or the line's
abbrev pub Closes : List ℕ → Type 0
Closes [] = Unit {0}
Closes (b ∷ rest) = is_line_end b ≡ true

abbrev pub no_end : ℕ → Bool
no_end b = not (is_line_end b)

-- ---- a character that ends no line has no byte that does

end_is_low : (b : ℕ) → 128 ≤ b → is_line_end b ≡ false
end_is_low b le = rw (ne_eqb b 10 (λ e. omega (arith, e)), ne_eqb b 13 (λ e. omega (arith, e))) refl

high_bytes : (bytes : List ℕ) → ((k : ℕ) → k < length bytes → 128 ≤ get_or bytes k 0) → list_all no_end bytes ≡ true
high_bytes [] each = refl
high_bytes (b ∷ bytes) each = rw (end_is_low b (each 0 (omega arith)), high_bytes bytes (λ k lt. each (suc k) (omega arith))) refl

pub char_ends_none : (c : ℕ) → is_line_end c ≡ false → list_all no_end (encode_utf8 c) ≡ true
char_ends_none c e =
    elim (cases_lt c 128) [
      | inl low ↦ ap (list_all no_end) (encode_ascii c low) ∙ rw e refl
      | inr high ↦
          high_bytes (encode_utf8 c) (λ k lt.
          elim (cases_lt (get_or (encode_utf8 c) k 0) 128) [
            | inl low ↦ let same = inside_one c [] (encode_utf8 c) k (sym (append-nil (encode_utf8 c))) lt low in absurd (omega (arith, same))
            | inr le ↦ le
          ])
    ]

-- the first byte of a character ends a line only where the character does
pub first_byte : (c b : ℕ) (rest after : List ℕ) → b ∷ rest ≡ encode_utf8 c ++ after → is_line_end b ≡ false → is_line_end c ≡ false
first_byte c b rest after parts e =
    elim (cases_lt c 128) [
      | inl low ↦ ap is_line_end (sym (byte_from_char (b ∷ rest) after c parts low)) ∙ e
      | inr high ↦ end_is_low c high
    ]

pub some_bytes : (c : ℕ) → 0 < length (encode_utf8 c)
some_bytes c = rw (length-encode c) (len_utf8_bounds c).0

-- ---- comments

pub record Commented (rest tail : List ℕ) : Type 0 where
  pub body : List ℕ
  pub parts : rest ≡ body ++ tail
  pub utf8 : IsUtf8 body
  pub inside : list_all no_end body ≡ true
  pub closes : Closes tail

nothing : (tail : List ℕ) → Closes tail → Commented tail tail
nothing tail c = record { body = []; parts = refl; utf8 = IsUtf8-nil; inside = refl; closes = c }

abbrev done : List ℕ → TextRead (Unit {0})
done tail = Ok (tt, tail)

ended : (xs tail : List ℕ) → done xs ≡ done tail → xs ≡ tail
ended xs tail e = ap (λ (x : Unit {0} × List ℕ). x.1) (ok_is (tt, xs) (tt, tail) e)

pub comment_found : (skip : ℕ) (rest tail : List ℕ) → comment_at skip rest ≡ done tail → Commented (drop skip rest) tail
unfolding comment_at
comment_found zero [] tail e = subst (λ (t : List ℕ). Commented [] t) (ended [] tail e) (nothing [] tt)
comment_found (suc skip) [] tail e = subst (λ (t : List ℕ). Commented [] t) (ended [] tail e) (nothing [] tt)
comment_found (suc skip) (b ∷ rest) tail e = comment_found skip rest tail e
comment_found zero (b ∷ rest) tail e =
    ⊎_elim
    (λ ends. subst (λ (t : List ℕ). Commented (b ∷ rest) t) (ended (b ∷ rest) tail ends.1) (nothing (b ∷ rest) ends.0))
    (λ inside.
    let c = bind_ok (char_at (b ∷ rest)) (λ (c : ℕ × List ℕ). comment_at (length rest - length c.1) rest) (tt, tail) inside.1 in
    let spelled = char_spelled (b ∷ rest) c.0.0 c.0.1 c.1 in
    let size : suc (length rest) ≡ length (encode_utf8 c.0.0) + length c.0.1 = ap length spelled.1 ∙ length-append (encode_utf8 c.0.0) c.0.1 in
    let some = some_bytes c.0.0 in
    let same : suc (length rest - length c.0.1) ≡ length (encode_utf8 c.0.0) = omega arith in
    let behind : drop (length rest - length c.0.1) rest ≡ c.0.1 = ap (λ (k : ℕ). drop k (b ∷ rest)) same ∙ ap (drop (length (encode_utf8 c.0.0))) spelled.1 ∙ drop_at (encode_utf8 c.0.0) c.0.1 (length (encode_utf8 c.0.0)) refl in
    let later = subst (λ (t : List ℕ). Commented t tail) behind (comment_found (length rest - length c.0.1) rest tail c.2) in
    record {
      body = encode_utf8 c.0.0 ++ later.body;
      parts = spelled.1 ∙ ap (λ (t : List ℕ). encode_utf8 c.0.0 ++ t) later.parts ∙ sym (append_assoc (encode_utf8 c.0.0) later.body tail);
      utf8 = IsUtf8-append (encode_utf8 c.0.0) later.body (IsUtf8-encode c.0.0 spelled.0) later.utf8;
      inside = list_all-append no_end (encode_utf8 c.0.0) later.body ∙ rw (char_ends_none c.0.0 (first_byte c.0.0 b rest c.0.1 spelled.1 inside.0), later.inside) refl;
      closes = later.closes;
    })
    (chosen (is_line_end b) (done (b ∷ rest)) (char_at (b ∷ rest) >>= λ c. comment_at (length rest - length c.1) rest) (done tail) e)

at_close : (tail : List ℕ) → Closes tail → comment_at 0 tail ≡ done tail
unfolding comment_at
at_close [] c = refl
at_close (b ∷ rest) c = rw c refl

comment_skip : (k : ℕ) (rest : List ℕ) → comment_at k rest ≡ comment_at 0 (drop k rest)
unfolding comment_at
comment_skip zero rest = refl
comment_skip (suc k) [] = refl
comment_skip (suc k) (b ∷ rest) = comment_skip k rest

-- one character of n bytes
comment_char : (rest : List ℕ) (c n : ℕ) (b : ℕ) → 0 < n → n ≤ length rest → get_or rest 0 0 ≡ b → is_line_end b ≡ false → char_at rest ≡ Ok (c, drop n rest) → comment_at 0 rest ≡ comment_at 0 (drop n rest)
unfolding comment_at
comment_char [] c n b pos le first is e = absurd (omega arith)
comment_char (a ∷ rest) c zero b pos le first is e = absurd (omega arith)
comment_char (a ∷ rest) c (suc n) b pos le first is e =
    let left : length (drop n rest) ≡ length rest - n = length-drop n rest in
    let k : length rest - length (drop n rest) ≡ n = omega arith in
    let not_end : is_line_end a ≡ false = ap is_line_end first ∙ is in
    rw (not_end, e, k) (comment_skip n rest)

pub one_char : (c : ℕ) (more : List ℕ) → IsScalar c → list_all no_end (encode_utf8 c) ≡ true → comment_at 0 (encode_utf8 c ++ more) ≡ comment_at 0 more
one_char c more s all =
    let n = length (encode_utf8 c) in
    let there : drop n (encode_utf8 c ++ more) ≡ more = drop_at (encode_utf8 c) more (length (encode_utf8 c)) refl in
    let within : length (encode_utf8 c) ≤ length (encode_utf8 c ++ more) = omega (arith, length-append (encode_utf8 c) more) in
    comment_char (encode_utf8 c ++ more) c n (get_or (encode_utf8 c ++ more) 0 0) (some_bytes c) within refl (first (encode_utf8 c) (some_bytes c) all)
    (char_again c more s ∙ ap (λ (t : List ℕ). Ok (c, t)) (sym there)) ∙ ap (comment_at 0) there
  where
    false_of : (b : Bool) → not b ≡ true → b ≡ false
    false_of true e = absurd (false≢true e)
    false_of false e = refl

    first : (bytes : List ℕ) → 0 < length bytes → list_all no_end bytes ≡ true → is_line_end (get_or (bytes ++ more) 0 0) ≡ false
    first [] pos all = absurd (omega arith)
    first (b ∷ bytes) pos all = false_of (is_line_end b) (and_parts (no_end b) (list_all no_end bytes) all).0

pub comment_again : (cs tail : List ℕ) → scalars cs ≡ true → list_all no_end (encode_utf8_all cs) ≡ true → Closes tail → comment_at 0 (encode_utf8_all cs ++ tail) ≡ done tail
comment_again [] tail s all c = at_close tail c
comment_again (x ∷ cs) tail s all c =
    let t = and_parts (scalar x) (scalars cs) s in
    let p = and_parts (list_all no_end (encode_utf8 x)) (list_all no_end (encode_utf8_all cs)) (sym (list_all-append no_end (encode_utf8 x) (encode_utf8_all cs)) ∙ all) in
    ap (comment_at 0) (append_assoc (encode_utf8 x) (encode_utf8_all cs) tail) ∙ one_char x (encode_utf8_all cs ++ tail) t.0 p.0 ∙ comment_again cs tail t.1 p.1 c

pub body_again : (body tail : List ℕ) → IsUtf8 body → list_all no_end body ≡ true → Closes tail → comment_at 0 (body ++ tail) ≡ done tail
body_again body tail u all c =
    ap (λ (b : List ℕ). comment_at 0 (b ++ tail)) (sym u.1.1) ∙ comment_again u.0 tail u.1.0 (ap (list_all no_end) u.1.1 ∙ all) c

-- ---- blanks, and a comment or nothing

pub record Ended (rest tail : List ℕ) : Type 0 where
  pub line : List ℕ
  pub parts : rest ≡ line ++ tail
  pub empty : IsEmptyLine line
  pub closes : Closes tail

bare : (rest : List ℕ) (b : Blanks rest []) → Ended rest []
bare rest b = record { line = b.0; parts = b.1; empty = (b.0, [], sym (append-nil b.0), b.2, inl refl); closes = tt }

never : (text : List ℕ) (x : Unit {0} × List ℕ) → no_end_at text ≡ Ok x → ⊥
unfolding no_end_at
never text x e = let c = bind_ok (char_at text) (λ (c : ℕ × List ℕ). Err (BadToken, text)) x e in not_ok x (BadToken, text) c.2

pub commented : (rest more tail : List ℕ) → Blanks rest (35 ∷ more) → Commented more tail → Ended rest tail
commented rest more tail b c = record {
  line = b.0 ++ 35 ∷ c.body;
  parts = b.1 ∙ ap (λ (t : List ℕ). b.0 ++ 35 ∷ t) c.parts ∙ sym (append_assoc b.0 (35 ∷ c.body) tail);
  empty = (b.0, 35 ∷ c.body, refl, b.2, inr (c.body, refl, c.utf8, c.inside));
  closes = c.closes;
}

end_found_by : (rest : List ℕ) (skipped tail : List ℕ) → Blanks rest skipped → end_by skipped ≡ done tail → Ended rest tail
end_found_by rest [] tail b e = subst (λ (t : List ℕ). Ended rest t) (ended [] tail e) (bare rest b)
end_found_by rest (x ∷ more) tail b e =
    ⊎_elim
    (λ ends.
    subst (λ (t : List ℕ). Ended rest t) (ended (x ∷ more) tail ends.1)
    (record { line = b.0; parts = b.1; empty = (b.0, [], sym (append-nil b.0), b.2, inl refl); closes = ends.0 }))
    (λ other.
    ⊎_elim
    (λ hash.
    let is : x ≡ 35 = eqb-true x 35 hash.0 in
    commented rest more tail (subst (λ (c : ℕ). Blanks rest (c ∷ more)) is b) (comment_found 0 more tail hash.1))
    (λ bad. absurd (never (x ∷ more) (tt, tail) bad.1))
    (chosen (nat_eq x 35) (comment_at 0 more) (no_end_at (x ∷ more)) (done tail) other.1))
    (chosen (is_line_end x) (done (x ∷ more)) (cond (nat_eq x 35) (comment_at 0 more) (no_end_at (x ∷ more))) (done tail) e)

pub line_end_found : (rest tail : List ℕ) → line_end_at rest ≡ done tail → Ended rest tail
unfolding line_end_at
line_end_found rest tail e = end_found_by rest (skip_blanks rest) tail (blanks_found rest) e

pub no_blank_closes : (tail : List ℕ) → Closes tail → StartsWith is_blank tail → ⊥
no_blank_closes [] c s = s
no_blank_closes (b ∷ rest) c s =
    let ten : (b ≡ 10) ⊎ (b ≡ 13) = by (nat_eq b 10) refl c in
    ⊎_elim (λ is. false≢true (subst (λ (k : ℕ). is_blank k ≡ true) is s)) (λ is. false≢true (subst (λ (k : ℕ). is_blank k ≡ true) is s)) ten
  where
    by : (t : Bool) → nat_eq b 10 ≡ t → (t || nat_eq b 13) ≡ true → (b ≡ 10) ⊎ (b ≡ 13)
    by true e c = inl (eqb-true b 10 e)
    by false e c = inr (eqb-true b 13 c)

end_by_close : (tail : List ℕ) → Closes tail → end_by tail ≡ done tail
end_by_close [] c = refl
end_by_close (b ∷ rest) c = rw c refl

pub line_end_again : (line tail : List ℕ) → IsEmptyLine line → Closes tail → line_end_at (line ++ tail) ≡ done tail
unfolding line_end_at
line_end_again line tail l c =
    let split : line ++ tail ≡ l.0 ++ (l.1 ++ tail) = ap (λ (t : List ℕ). t ++ tail) l.2 ∙ append_assoc l.0 l.1 tail in
    ⊎_elim
    (λ none.
    let same : line ++ tail ≡ l.0 ++ tail = split ∙ ap (λ (t : List ℕ). l.0 ++ (t ++ tail)) none in
    ap (λ (t : List ℕ). end_by (skip_blanks t)) same ∙ ap end_by (skip_again l.0 tail l.3 (no_blank_closes tail c)) ∙ end_by_close tail c)
    (λ comment.
    let same : line ++ tail ≡ l.0 ++ 35 ∷ (comment.0 ++ tail) = split ∙ ap (λ (t : List ℕ). l.0 ++ (t ++ tail)) comment.1 in
    ap (λ (t : List ℕ). end_by (skip_blanks t)) same ∙ ap end_by (skip_again l.0 (35 ∷ (comment.0 ++ tail)) l.3 (λ s. false≢true s)) ∙ body_again comment.0 tail comment.2 comment.3 c)
    l.4
