-- What stops a token of pieces is met exactly where the table has it.
use Rattle.std.proofs.Common.{◌≡◌, ℕ, ◌<◌, Bool, true, false, cond, ◌||◌, List, ◌∷◌, ◌++◌, Option, Some, None, is_some, Ok, Err, nat_eq, refl, sym, ap, ◌∙◌, ⊎_elim, arith}
use Rattle.std.proofs.lemmas.Bool.{eqb-true}
use Rattle.std.proofs.lemmas.Bool.Decides.{nat_tests}
use Rattle.rdf_terms.specs.Iri.{is_forbidden}
use Rattle.nquads_text.specs.declared.fault.TextKind.TheVariants.{BadIri, BadToken}
use Rattle.nquads_text.specs.Fault.{TextFault, ◌>>=◌}
use Rattle.nquads_text.specs.Reading.{char_at, uchar_at, iri_piece, short_or_uchar, string_piece, iri_body_at, string_body_at}
use Rattle.nquads_text.specs.Grammar.{echar, IriPiece, StringPiece, Spells}
use Rattle.nquads_text.specs.Faults.{Lacks, EscapeFault, is_uchar_letter, is_escape_letter, StopsInside, IriStop, StringStop, StringFault}
use Rattle.nquads_text.proofs.Fronts.{char_at-ascii, char_spelled}
use Rattle.nquads_text.proofs.Steps.{bind_err, chosen, ok_is, not_both, err_is}
use Rattle.nquads_text.proofs.Inside.{low_char, uchar_taken, uchar_shape, uchar_again}
use Rattle.nquads_text.proofs.InString.{reads_iri, reads_string}
use Rattle.nquads_text.proofs.Needed.{char_fault, no_character, char_stands}
use Rattle.nquads_text.proofs.EscapeFaults.{uchar_fault, uchar_lacks, escape_opens, escape_by}
use Rattle.nquads_text.proofs.Plain.{iri_piece-nil, string_piece-nil}
use Rattle.nquads_text.proofs.Spelled.{body_stops, stops_again}

-- ---- an IRI

iri_piece_fault : (rest : List ℕ) (f : TextFault) → iri_piece rest ≡ Err f → IriStop rest f
unfolding iri_piece
iri_piece_fault rest f e =
    ⊎_elim
    (λ none. IriStop.nothing (char_fault rest f none))
    (λ there.
    let d = there.0 in
    ⊎_elim
    (λ ends. absurd (not_both (None, d.1) f ends.1))
    (λ goes. ⊎_elim
    (λ escape.
    let opens : rest ≡ 92 ∷ d.1 = low_char rest d 92 there.1 (eqb-true d.0 92 escape.0) (omega arith) in
    ⊎_elim
    (λ bad. rw opens (IriStop.escape (uchar_fault is_uchar_letter d.1 f (λ letter read no_letter. no_letter) (ap (λ (t : List ℕ). uchar_at t d.1) (sym opens) ∙ bad))))
    (λ whole.
    let u = whole.0 in
    let t = uchar_taken rest d.1 u whole.1 in
    ⊎_elim
    (λ bad. IriStop.named (92 ∷ t.bytes) u.1 u.0 (opens ∙ ap (λ (s : List ℕ). 92 ∷ s) t.parts) t.is bad.0 (sym (err_is (BadIri, rest) f bad.1)))
    (λ fine. absurd (not_both (Some u.0, u.1) f fine.1))
    (chosen (is_forbidden u.0) (Err (BadIri, rest)) (Ok (Some u.0, u.1)) (Err f) whole.2))
    (bind_err (uchar_at rest d.1) (λ (u : ℕ × List ℕ). cond (is_forbidden u.0) (Err (BadIri, rest)) (Ok (Some u.0, u.1))) f escape.1))
    (λ plain. ⊎_elim
    (λ bad. IriStop.forbidden d.0 d.1 (char_spelled rest d.0 d.1 there.1) bad.0 goes.0 plain.0 (sym (err_is (BadIri, rest) f bad.1)))
    (λ fine. absurd (not_both (Some d.0, d.1) f fine.1))
    (chosen (is_forbidden d.0) (Err (BadIri, rest)) (Ok (Some d.0, d.1)) (Err f) plain.1))
    (chosen (nat_eq d.0 92) (uchar_at rest d.1 >>= λ (u : ℕ × List ℕ). cond (is_forbidden u.0) (Err (BadIri, rest)) (Ok (Some u.0, u.1))) (cond (is_forbidden d.0) (Err (BadIri, rest)) (Ok (Some d.0, d.1))) (Err f) goes.1))
    (chosen (nat_eq d.0 62) (Ok (None, d.1)) (cond (nat_eq d.0 92) (uchar_at rest d.1 >>= λ (u : ℕ × List ℕ). cond (is_forbidden u.0) (Err (BadIri, rest)) (Ok (Some u.0, u.1))) (cond (is_forbidden d.0) (Err (BadIri, rest)) (Ok (Some d.0, d.1)))) (Err f) there.2))
    (bind_err (char_at rest) (λ (d : ℕ × List ℕ). cond (nat_eq d.0 62) (Ok (None, d.1))
    (cond (nat_eq d.0 92) (uchar_at rest d.1 >>= λ (u : ℕ × List ℕ). cond (is_forbidden u.0) (Err (BadIri, rest)) (Ok (Some u.0, u.1)))
    (cond (is_forbidden d.0) (Err (BadIri, rest)) (Ok (Some d.0, d.1))))) f e)

iri_escape : (rest : List ℕ) (f : TextFault) → EscapeFault is_uchar_letter (92 ∷ rest) f → iri_piece (92 ∷ rest) ≡ Err f
unfolding iri_piece
iri_escape rest f e = rw (char_at-ascii 92 rest (omega arith), uchar_lacks rest f e) refl

iri_piece_stops : (rest : List ℕ) (f : TextFault) → IriStop rest f → iri_piece rest ≡ Err f
unfolding iri_piece
iri_piece_stops rest f (IriStop.nothing n) = rw (no_character rest f n) refl
iri_piece_stops rest f (IriStop.forbidden c after at bad no_end no_escape is) = rw (char_stands rest c after at, bad, no_end, no_escape) (ap (λ (g : TextFault). Err g) (sym is))
iri_piece_stops rest f (IriStop.escape e) = let o = escape_opens is_uchar_letter rest f e in rw o.1 (iri_escape o.0 f (rw o.1 at e))
iri_piece_stops rest f (IriStop.named bytes after c parts uchar bad is) =
    let s = uchar_shape bytes c uchar in
    let opens : rest ≡ 92 ∷ (s.0 ++ after) = parts ∙ ap (λ (t : List ℕ). t ++ after) s.1 in
    rw (ap char_at opens ∙ char_at-ascii 92 (s.0 ++ after) (omega arith), uchar_again rest s.0 c after s.2, bad) (ap (λ (g : TextFault). Err g) (sym is))

-- ---- a string

short_fault : (o : Option ℕ) (start rest after : List ℕ) (f : TextFault) → short_or_uchar o start rest after ≡ Err f → (o ≡ None) × (uchar_at start rest ≡ Err f)
short_fault (Some c) start rest after f e = absurd (not_both (Some c, after) f e)
short_fault None start rest after f e =
    ⊎_elim (λ bad. (refl, bad)) (λ fine. absurd (not_both (Some fine.0.0, fine.0.1) f fine.2))
    (bind_err (uchar_at start rest) (λ (u : ℕ × List ℕ). Ok (Some u.0, u.1)) f e)

line_small : (c : ℕ) → (nat_eq c 10 || nat_eq c 13) ≡ true → c < 128
line_small c e = grind (arith, nat_tests)

no_letter : (o : Option ℕ) (letter : Bool) → o ≡ None → letter ≡ false → (is_some o || letter) ≡ false
no_letter o letter none no_uchar = rw (none, no_uchar) refl

escape_in_string : (rest : List ℕ) (f : TextFault) → (char_at rest >>= λ (letter : ℕ × List ℕ). short_or_uchar (echar letter.0) (92 ∷ rest) rest letter.1) ≡ Err f
    → EscapeFault is_escape_letter (92 ∷ rest) f
escape_in_string rest f e =
    ⊎_elim
    (λ none. EscapeFault.letter rest refl (Lacks.nothing (char_fault rest f none)))
    (λ there.
    let letter = there.0 in
    let s = short_fault (echar letter.0) (92 ∷ rest) rest letter.1 f there.2 in
    uchar_fault is_escape_letter rest f
    (λ other read no_uchar.
    let same : letter ≡ other = ok_is letter other (sym there.1 ∙ read) in
    no_letter (echar other.0) (is_uchar_letter other.0) (ap (λ (x : ℕ × List ℕ). echar x.0) (sym same) ∙ s.0) no_uchar)
    s.1)
    (bind_err (char_at rest) (λ (letter : ℕ × List ℕ). short_or_uchar (echar letter.0) (92 ∷ rest) rest letter.1) f e)

string_piece_fault : (rest : List ℕ) (f : TextFault) → string_piece rest ≡ Err f → StringStop rest f
unfolding string_piece
string_piece_fault rest f e =
    ⊎_elim
    (λ none. StringStop.nothing (char_fault rest f none))
    (λ there.
    let d = there.0 in
    ⊎_elim
    (λ ends. absurd (not_both (None, d.1) f ends.1))
    (λ goes. ⊎_elim
    (λ escape.
    let opens : rest ≡ 92 ∷ d.1 = low_char rest d 92 there.1 (eqb-true d.0 92 escape.0) (omega arith) in
    rw opens (StringStop.escape (escape_in_string d.1 f (ap (λ (t : List ℕ). char_at d.1 >>= λ (letter : ℕ × List ℕ). short_or_uchar (echar letter.0) t d.1 letter.1) (sym opens) ∙ escape.1))))
    (λ plain. ⊎_elim
    (λ bad. StringStop.line_end d.0 d.1 bad.0 (low_char rest d d.0 there.1 refl (line_small d.0 bad.0)) (sym (err_is (BadToken, rest) f bad.1)))
    (λ fine. absurd (not_both (Some d.0, d.1) f fine.1))
    (chosen (nat_eq d.0 10 || nat_eq d.0 13) (Err (BadToken, rest)) (Ok (Some d.0, d.1)) (Err f) plain.1))
    (chosen (nat_eq d.0 92) (char_at d.1 >>= λ (letter : ℕ × List ℕ). short_or_uchar (echar letter.0) rest d.1 letter.1) (cond (nat_eq d.0 10 || nat_eq d.0 13) (Err (BadToken, rest)) (Ok (Some d.0, d.1))) (Err f) goes.1))
    (chosen (nat_eq d.0 34) (Ok (None, d.1)) (cond (nat_eq d.0 92) (char_at d.1 >>= λ (letter : ℕ × List ℕ). short_or_uchar (echar letter.0) rest d.1 letter.1) (cond (nat_eq d.0 10 || nat_eq d.0 13) (Err (BadToken, rest)) (Ok (Some d.0, d.1)))) (Err f) there.2))
    (bind_err (char_at rest) (λ (c : ℕ × List ℕ). cond (nat_eq c.0 34) (Ok (None, c.1))
    (cond (nat_eq c.0 92) (char_at c.1 >>= λ (letter : ℕ × List ℕ). short_or_uchar (echar letter.0) rest c.1 letter.1)
    (cond (nat_eq c.0 10 || nat_eq c.0 13) (Err (BadToken, rest)) (Ok (Some c.0, c.1))))) f e)

string_escape : (rest : List ℕ) (f : TextFault) → EscapeFault is_escape_letter (92 ∷ rest) f → string_piece (92 ∷ rest) ≡ Err f
unfolding string_piece
string_escape rest f e =
    ⊎_elim
    (λ none. rw (char_at-ascii 92 rest (omega arith), none) refl)
    (λ named. rw (char_at-ascii 92 rest (omega arith), named.1, named.2, uchar_lacks rest f named.3) refl)
    (escape_by rest f e)

line_tests : (c : ℕ) → (nat_eq c 10 || nat_eq c 13) ≡ true → (nat_eq c 34 ≡ false) × (nat_eq c 92 ≡ false)
line_tests c e = (grind (arith, nat_tests), grind (arith, nat_tests))

string_piece_stops : (rest : List ℕ) (f : TextFault) → StringStop rest f → string_piece rest ≡ Err f
unfolding string_piece
string_piece_stops rest f (StringStop.nothing n) = rw (no_character rest f n) refl
string_piece_stops rest f (StringStop.line_end c after line parts is) =
    let t = line_tests c line in
    rw (ap char_at parts ∙ char_at-ascii c after (line_small c line), t.0, t.1, line) (ap (λ (g : TextFault). Err g) (sym is))
string_piece_stops rest f (StringStop.escape e) = let o = escape_opens is_escape_letter rest f e in rw o.1 (string_escape o.0 f (rw o.1 at e))

-- ---- what is behind the opening byte

pub iri_body_fault : (rest : List ℕ) (f : TextFault) → iri_body_at rest ≡ Err f → StopsInside IriPiece IriStop 60 (60 ∷ rest) f
iri_body_fault rest f e =
    let s = body_stops iri_piece IriPiece 62 reads_iri iri_piece-nil 0 rest f e in
    (s.body, s.chars, s.after, ap (λ (t : List ℕ). 60 ∷ t) s.parts, s.spelled, iri_piece_fault s.after f s.fault)

pub iri_body_stops : (body cs rest : List ℕ) (f : TextFault) → Spells IriPiece body cs → IriStop rest f → iri_body_at (body ++ rest) ≡ Err f
iri_body_stops body cs rest f spelled stop = stops_again iri_piece IriPiece 62 reads_iri iri_piece-nil body cs rest f spelled (iri_piece_stops rest f stop)

pub string_body_fault : (rest : List ℕ) (f : TextFault) → string_body_at rest ≡ Err f → StringFault (34 ∷ rest) f
string_body_fault rest f e =
    let s = body_stops string_piece StringPiece 34 reads_string string_piece-nil 0 rest f e in
    (s.body, s.chars, s.after, ap (λ (t : List ℕ). 34 ∷ t) s.parts, s.spelled, string_piece_fault s.after f s.fault)

pub string_body_stops : (body cs rest : List ℕ) (f : TextFault) → Spells StringPiece body cs → StringStop rest f → string_body_at (body ++ rest) ≡ Err f
string_body_stops body cs rest f spelled stop = stops_again string_piece StringPiece 34 reads_string string_piece-nil body cs rest f spelled (string_piece_stops rest f stop)
