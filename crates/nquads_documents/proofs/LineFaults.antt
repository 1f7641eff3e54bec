-- The first fault of a comment, and of what follows a statement on its line, is met in its reading, and no other is.
use Rattle.std.proofs.Common.{◌≡◌, ℕ, zero, suc, ◌+◌, ◌-◌, ◌<◌, Bool, true, false, cond, ◌||◌, List, [], ◌∷◌, ◌++◌, length, drop, Ok, Err, nat_eq, refl, sym, ap, subst, ◌∙◌, ◌⊎◌, inl, inr, ⊎_elim, arith, append_assoc, eq-eqb}
use Rattle.std.specs.List.{list_all}
use Rattle.std.specs.Str.{encode_utf8_all}
use Rattle.std.specs.Char.{IsScalar, encode_utf8}
use Rattle.std.proofs.lemmas.Bool.{and_parts, false≢true, eqb-true, ne_eqb}
use Rattle.std.proofs.lemmas.List.{length-append, drop_at}
use Rattle.std.proofs.lemmas.List.Folds.{list_all-append}
use Rattle.std.proofs.lemmas.Str.{encode_ascii, IsUtf8-append, IsUtf8-encode, IsUtf8-nil, byte_from_char, char_from_byte}
use lib.Utf8.{scalar, scalars}
use Rattle.nquads_text.specs.declared.fault.TextKind.TheVariants.{NotUtf8, BadToken, Truncated}
use Rattle.nquads_text.specs.Fault.{TextRead, TextFault, ◌>>=◌}
use Rattle.nquads_text.specs.Reading.{char_at}
use Rattle.nquads_text.specs.Terms.{skip_blanks}
use Rattle.nquads_text.proofs.Fronts.{char_spelled, char_again}
use Rattle.nquads_text.proofs.Steps.{bind_err, chosen, not_both}
use Rattle.nquads_text.specs.Grammar.{Blanks, is_line_end}
use Rattle.nquads_text.specs.Faults.{IsIllFormed}
use Rattle.nquads_documents.specs.Faults.{OtherFault, CommentFault, LineEndFault}
use Rattle.nquads_documents.specs.Reading.{comment_at, no_end_at, end_by, line_end_at}
use Rattle.nquads_documents.proofs.BlankLaws.{blanks_found, blanks_again}
use Rattle.nquads_documents.proofs.LineEnds.{no_end, char_ends_none, first_byte, some_bytes, one_char}
use Rattle.nquads_documents.proofs.StatementFaults.{err_is, char_failed, ill_formed}

abbrev fails : {X : Type 0} → TextFault → TextRead X
fails f = Err f

-- ---- ASCII bytes are characters

ill_none : (b c : ℕ) (rest : List ℕ) → IsIllFormed (b ∷ rest) → b ≡ c → c < 128 → IsScalar c → ⊥
ill_none b c rest i same low s = i.1 c rest (s, ap (λ (k : ℕ). k ∷ rest) same ∙ ap (λ (t : List ℕ). t ++ rest) (sym (encode_ascii c low)))

ill_no_end : (b : ℕ) (rest : List ℕ) → IsIllFormed (b ∷ rest) → is_line_end b ≡ false
ill_no_end b rest i = by (nat_eq b 10) refl (nat_eq b 13) refl
  where
    by : (s : Bool) → nat_eq b 10 ≡ s → (t : Bool) → nat_eq b 13 ≡ t → (s || t) ≡ false
    by true p t q = absurd (ill_none b 10 rest i (eqb-true b 10 p) (omega arith) refl)
    by false p true q = absurd (ill_none b 13 rest i (eqb-true b 13 q) (omega arith) refl)
    by false p false q = refl

ill_no_hash : (b : ℕ) (rest : List ℕ) → IsIllFormed (b ∷ rest) → nat_eq b 35 ≡ false
ill_no_hash b rest i = ne_eqb b 35 (λ same. ill_none b 35 rest i same (omega arith) refl)

-- where some byte stands
ill_front : (b : ℕ) (rest : List ℕ) (f : TextFault) → char_at (b ∷ rest) ≡ Err f → IsIllFormed (b ∷ rest) × (f ≡ (NotUtf8, b ∷ rest))
ill_front b rest f e = by (char_failed (b ∷ rest) f e)
  where
    by : ((b ∷ rest ≡ []) × (f ≡ (Truncated, []))) ⊎ (IsIllFormed (b ∷ rest) × (f ≡ (NotUtf8, b ∷ rest))) → IsIllFormed (b ∷ rest) × (f ≡ (NotUtf8, b ∷ rest))
    by (inl cut) = absurd (let bad : b ∷ rest ≡ [] = cut.0 in cc)
    by (inr bad) = bad

-- ---- comments

here : (text : List ℕ) (f : TextFault) → IsIllFormed text → f ≡ (NotUtf8, text) → CommentFault text f
here text f i e = ([], text, refl, IsUtf8-nil, refl, i, e)

pub comment_failed : (skip : ℕ) (rest : List ℕ) (f : TextFault) → comment_at skip rest ≡ Err f → CommentFault (drop skip rest) f
unfolding comment_at
comment_failed zero [] f e = absurd (not_both (tt, []) f e)
comment_failed (suc skip) [] f e = absurd (not_both (tt, []) f e)
comment_failed (suc skip) (b ∷ rest) f e = comment_failed skip rest f e
comment_failed zero (b ∷ rest) f e =
    ⊎_elim
    (λ ends. absurd (not_both (tt, b ∷ rest) f ends.1))
    (λ inside.
    ⊎_elim
    (λ none. let bad = ill_front b rest f none in here (b ∷ rest) f bad.0 bad.1)
    (λ (c : (c : ℕ × List ℕ) × (char_at (b ∷ rest) ≡ Ok c) × (comment_at (length rest - length c.1) rest ≡ Err f)).
    let spelled = char_spelled (b ∷ rest) c.0.0 c.0.1 c.1 in
    let size : suc (length rest) ≡ length (encode_utf8 c.0.0) + length c.0.1 = ap length spelled.1 ∙ length-append (encode_utf8 c.0.0) c.0.1 in
    let some = some_bytes c.0.0 in
    let same : suc (length rest - length c.0.1) ≡ length (encode_utf8 c.0.0) = omega arith in
    let behind : drop (length rest - length c.0.1) rest ≡ c.0.1 = ap (λ (k : ℕ). drop k (b ∷ rest)) same ∙ ap (drop (length (encode_utf8 c.0.0))) spelled.1 ∙ drop_at (encode_utf8 c.0.0) c.0.1 (length (encode_utf8 c.0.0)) refl in
    let later = subst (λ (t : List ℕ). CommentFault t f) behind (comment_failed (length rest - length c.0.1) rest f c.2) in (
      encode_utf8 c.0.0 ++ later.0,
      later.1,
      spelled.1 ∙ ap (λ (t : List ℕ). encode_utf8 c.0.0 ++ t) later.2 ∙ sym (append_assoc (encode_utf8 c.0.0) later.0 later.1),
      IsUtf8-append (encode_utf8 c.0.0) later.0 (IsUtf8-encode c.0.0 spelled.0) later.3,
      list_all-append no_end (encode_utf8 c.0.0) later.0 ∙ rw (char_ends_none c.0.0 (first_byte c.0.0 b rest c.0.1 spelled.1 inside.0), later.4) refl,
      later.5,
      later.6,
    ))
    (bind_err (char_at (b ∷ rest)) (λ (c : ℕ × List ℕ). comment_at (length rest - length c.1) rest) f inside.1))
    (chosen (is_line_end b) (Ok (tt, b ∷ rest)) (char_at (b ∷ rest) >>= λ c. comment_at (length rest - length c.1) rest) (Err f) e)

ill_comment : (rest : List ℕ) → IsIllFormed rest → comment_at 0 rest ≡ Err (NotUtf8, rest)
unfolding comment_at
ill_comment [] i = absurd (i.0 refl)
ill_comment (b ∷ rest) i = rw (ill_no_end b rest i, ill_formed (b ∷ rest) i) refl

chars_fail : (cs rest : List ℕ) → scalars cs ≡ true → list_all no_end (encode_utf8_all cs) ≡ true → IsIllFormed rest → comment_at 0 (encode_utf8_all cs ++ rest) ≡ Err (NotUtf8, rest)
chars_fail [] rest s all i = ill_comment rest i
chars_fail (x ∷ cs) rest s all i =
    let t = and_parts (scalar x) (scalars cs) s in
    let p = and_parts (list_all no_end (encode_utf8 x)) (list_all no_end (encode_utf8_all cs)) (sym (list_all-append no_end (encode_utf8 x) (encode_utf8_all cs)) ∙ all) in
    ap (comment_at 0) (append_assoc (encode_utf8 x) (encode_utf8_all cs) rest) ∙ one_char x (encode_utf8_all cs ++ rest) t.0 p.0 ∙ chars_fail cs rest t.1 p.1 i

pub comment_fails : (text : List ℕ) (f : TextFault) → CommentFault text f → comment_at 0 text ≡ Err f
comment_fails text f c =
    ap (comment_at 0) (c.2 ∙ ap (λ (b : List ℕ). b ++ c.1) (sym c.3.1.1)) ∙ chars_fail c.3.0 c.1 c.3.1.0 (ap (list_all no_end) c.3.1.1 ∙ c.4) c.5 ∙ ap fails (sym c.6)

-- ---- behind a statement's dot

abbrev pub may_end_line : ℕ → Bool
may_end_line c = is_line_end c || nat_eq c 35

hash_byte : (c b : ℕ) (rest after : List ℕ) → b ∷ rest ≡ encode_utf8 c ++ after → nat_eq b 35 ≡ false → nat_eq c 35 ≡ false
hash_byte c b rest after parts e = ne_eqb c 35 (λ same.
    let low : c < 128 = omega (arith, same) in
    let first : b ≡ c = byte_from_char (b ∷ rest) after c parts low in
    false≢true (sym e ∙ eq-eqb b 35 (first ∙ same)))

no_end_failed : (b : ℕ) (rest : List ℕ) (f : TextFault) → is_line_end b ≡ false → nat_eq b 35 ≡ false → no_end_at (b ∷ rest) ≡ Err f → OtherFault BadToken may_end_line (b ∷ rest) f
unfolding no_end_at
no_end_failed b rest f end hash e =
    ⊎_elim
    (λ none. inl (ill_front b rest f none))
    (λ (c : (c : ℕ × List ℕ) × (char_at (b ∷ rest) ≡ Ok c) × (fails {X = Unit {0}} (BadToken, b ∷ rest) ≡ Err f)).
    let s = char_spelled (b ∷ rest) c.0.0 c.0.1 c.1 in
    let other : may_end_line c.0.0 ≡ false = rw (first_byte c.0.0 b rest c.0.1 s.1 end, hash_byte c.0.0 b rest c.0.1 s.1 hash) refl in
    inr (c.0.0, c.0.1, s.0, s.1, other, sym (err_is {X = Unit {0}} (BadToken, b ∷ rest) f c.2)))
    (bind_err (char_at (b ∷ rest)) (λ (c : ℕ × List ℕ). Err (BadToken, b ∷ rest)) f e)

end_failed_by : (text skipped : List ℕ) (f : TextFault) → Blanks text skipped → end_by skipped ≡ Err f → LineEndFault text f
end_failed_by text [] f b e = absurd (not_both (tt, []) f e)
end_failed_by text (x ∷ more) f b e =
    ⊎_elim
    (λ ends. absurd (not_both (tt, x ∷ more) f ends.1))
    (λ other.
    ⊎_elim
    (λ hash. (x ∷ more, b, inl (more, ap (λ (k : ℕ). k ∷ more) (eqb-true x 35 hash.0), comment_failed 0 more f hash.1)))
    (λ bad. (x ∷ more, b, inr (λ same. absurd cc, no_end_failed x more f other.0 bad.0 bad.1)))
    (chosen (nat_eq x 35) (comment_at 0 more) (no_end_at (x ∷ more)) (Err f) other.1))
    (chosen (is_line_end x) (Ok (tt, x ∷ more)) (cond (nat_eq x 35) (comment_at 0 more) (no_end_at (x ∷ more))) (Err f) e)

pub line_end_failed : (text : List ℕ) (f : TextFault) → line_end_at text ≡ Err f → LineEndFault text f
unfolding line_end_at
line_end_failed text f e = end_failed_by text (skip_blanks text) f (blanks_found text) e

-- a byte that is one of these is its character
end_of_char : (c b : ℕ) (rest after : List ℕ) → b ∷ rest ≡ encode_utf8 c ++ after → may_end_line c ≡ false → (is_line_end b ≡ false) × (nat_eq b 35 ≡ false)
end_of_char c b rest after parts e = by (nat_eq b 10) refl (nat_eq b 13) refl (nat_eq b 35) refl
  where
    same : (d : ℕ) → b ≡ d → d < 128 → may_end_line d ≡ true → ⊥
    same d is low ends =
        let first : c ≡ b = char_from_byte (b ∷ rest) after c parts (omega (arith, is)) (omega arith) in
        false≢true (sym e ∙ ap may_end_line (first ∙ is) ∙ ends)

    by : (s : Bool) → nat_eq b 10 ≡ s → (t : Bool) → nat_eq b 13 ≡ t → (u : Bool) → nat_eq b 35 ≡ u → ((s || t) ≡ false) × (u ≡ false)
    by true p t q u r = absurd (same 10 (eqb-true b 10 p) (omega arith) refl)
    by false p true q u r = absurd (same 13 (eqb-true b 13 q) (omega arith) refl)
    by false p false q true r = absurd (same 35 (eqb-true b 35 r) (omega arith) refl)
    by false p false q false r = (refl, refl)

other_fails : (rest : List ℕ) (f : TextFault) → (rest ≡ [] → ⊥) → OtherFault BadToken may_end_line rest f → end_by rest ≡ Err f
unfolding no_end_at
other_fails [] f some o = absurd (some refl)
other_fails (b ∷ rest) f some (inl ill) = rw (ill_no_end b rest ill.0, ill_no_hash b rest ill.0, ill_formed (b ∷ rest) ill.0) (ap fails (sym ill.1))
other_fails (b ∷ rest) f some (inr other) =
    let e = end_of_char other.0 b rest other.1 other.3 other.4 in
    let read : char_at (b ∷ rest) ≡ Ok (other.0, other.1) = ap char_at other.3 ∙ char_again other.0 other.1 other.2 in
    rw (e.0, e.1, read) (ap fails (sym other.5))

pub line_end_fails : (text : List ℕ) (f : TextFault) → LineEndFault text f → line_end_at text ≡ Err f
unfolding line_end_at
line_end_fails text f l =
    ap end_by (blanks_again text l.0 l.1)
    ∙ ⊎_elim (λ comment. ap end_by comment.1 ∙ comment_fails comment.0 f comment.2) (λ other. other_fails l.0 f other.0 other.1) l.2
