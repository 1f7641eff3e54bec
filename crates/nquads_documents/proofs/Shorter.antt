-- Each reader leaves a shorter text: what follows a part has fewer bytes than what the part stood in.
use Rattle.std.proofs.Common.{◌≡◌, ℕ, zero, suc, ◌+◌, ◌-◌, ◌<◌, ◌≤◌, Bool, true, false, cond, ◌||◌, List, [], ◌∷◌, length, drop, Option, Ok, Err, nat_eq, ap, subst, ◌∙◌, arith}
use Rattle.std.specs.Char.{encode_utf8}
use Rattle.std.proofs.lemmas.List.{length-append, length-drop}
use Rattle.std.proofs.lemmas.Str.{length-encode, len_utf8_bounds}
use Rattle.rdf_terms.specs.Iri.{has_scheme}
use Rattle.rdf_terms.specs.Quad.{Statement}
use Rattle.nquads_text.specs.Fault.{TextFault, TextRead, ◌>>=◌}
use Rattle.nquads_text.specs.Grammar.{IriPiece, StringPiece, is_line_end}
use Rattle.nquads_text.specs.Reading.{char_at, iri_piece, string_piece, iri_body_at, string_body_at}
use Rattle.nquads_text.specs.Terms.{name_len, name_at, label_at, tag_at, iri_at, iri_needed, skip_blanks, kind_given, datatype_at, typed_at, suffix_at, literal_at, term_at}
use Rattle.nquads_text.specs.Statement.{node_at, predicate_at, final_dot_at, graph_at, statement_at}
use Rattle.nquads_text.proofs.Steps.{bind_ok, ok_is, not_ok}
use Rattle.nquads_text.proofs.Inside.{char_taken}
use Rattle.nquads_text.proofs.Spelled.{body_taken}
use Rattle.nquads_text.proofs.InString.{reads_iri, reads_string}
use Rattle.nquads_text.proofs.TagLaws.{tag_found}
use Rattle.nquads_documents.specs.Reading.{comment_at, no_end_at, end_by, line_end_at, comment_part, statement_part, part_by, document_part_at}

abbrev pub Upto : {X : Type 0} → TextRead X → ℕ → Type 0
Upto {X} r n = (x : X × List ℕ) → r ≡ Ok x → length x.1 ≤ n

upto_ok : {X : Type 0} (y : X × List ℕ) (n : ℕ) → length y.1 ≤ n → Upto (Ok y) n
upto_ok y n le x e = subst (λ (v : List ℕ). length v ≤ n) (ap (λ (z : _ × List ℕ). z.1) (ok_is y x e)) le

upto_err : {X : Type 0} (f : TextFault) (n : ℕ) → Upto {X = X} (Err f) n
upto_err f n x e = absurd (not_ok x f e)

upto_then : {X Y : Type 0} (r : TextRead X) (f : X × List ℕ → TextRead Y) (n : ℕ) → Upto r n → ((x : X × List ℕ) → length x.1 ≤ n → Upto (f x) n) → Upto (r >>= f) n
upto_then r f n first others y e = let p = bind_ok r f y e in others p.0 (first p.0 p.1) y p.2

upto_if : {X : Type 0} (b : Bool) (r s : TextRead X) (n : ℕ) → Upto r n → Upto s n → Upto (cond b r s) n
upto_if true r s n a b = a
upto_if false r s n a b = b

upto_char : (rest : List ℕ) (n : ℕ) → length rest ≤ suc n → Upto (char_at rest) n
upto_char rest n le x e =
    let t = char_taken rest x e in
    let l : length rest ≡ length (encode_utf8 x.0) + length x.1 = ap length t.parts ∙ length-append t.bytes x.1 ∙ ap (λ (b : List ℕ). length b + length x.1) t.is.1 in
    omega (arith, length-encode x.0, (len_utf8_bounds x.0).0)

upto_iri_body : (rest : List ℕ) (n : ℕ) → length rest ≤ n → Upto (iri_body_at rest) n
upto_iri_body rest n le x e =
    let b = body_taken iri_piece IriPiece 62 reads_iri 0 rest x e in
    let l : length rest ≡ length b.body + suc (length x.1) = ap length b.parts ∙ length-append b.body (62 ∷ x.1) in omega arith

upto_string_body : (rest : List ℕ) (n : ℕ) → length rest ≤ n → Upto (string_body_at rest) n
upto_string_body rest n le x e =
    let b = body_taken string_piece StringPiece 34 reads_string 0 rest x e in
    let l : length rest ≡ length b.body + suc (length x.1) = ap length b.parts ∙ length-append b.body (34 ∷ x.1) in omega arith

upto_tag : (start rest : List ℕ) (n : ℕ) → length rest ≤ n → Upto (tag_at true false start rest) n
upto_tag start rest n le x e =
    let t = tag_found start rest x.0 x.1 e in
    let l : length rest ≡ length t.0 + length x.1 = ap length t.2 ∙ length-append t.0 x.1 in omega arith

blanks : (rest : List ℕ) → length (skip_blanks rest) ≤ length rest
unfolding skip_blanks
blanks [] = omega arith
blanks (b ∷ rest) = by (nat_eq b 32 || nat_eq b 9) (blanks rest)
  where
    by : (t : Bool) → length (skip_blanks rest) ≤ length rest → length (cond t (skip_blanks rest) (b ∷ rest)) ≤ suc (length rest)
    by true le = omega arith
    by false le = omega arith

upto_blanks : (rest : List ℕ) (n : ℕ) → length rest ≤ n → length (skip_blanks rest) ≤ n
upto_blanks rest n le = let l = blanks rest in omega arith

upto_label : (start rest : List ℕ) (n : ℕ) → length rest ≤ n → Upto (label_at start rest) n
unfolding label_at name_at
upto_label start rest n le =
    upto_then (char_at rest) _ n (upto_char rest n (omega arith)) (λ colon a.
    upto_if (nat_eq colon.0 58) _ _ n
    (upto_then (char_at colon.1) _ n (upto_char colon.1 n (omega arith)) (λ first b.
    upto_if _ _ _ n (upto_ok _ n (let l = length-drop ((length colon.1 - length first.1) + name_len 0 first.1) colon.1 in omega arith)) (upto_err _ n)))
    (upto_err _ n))

upto_iri : (start rest : List ℕ) (n : ℕ) → length rest ≤ n → Upto (iri_at start rest) n
unfolding iri_at
upto_iri start rest n le = upto_then (iri_body_at rest) _ n (upto_iri_body rest n le) (λ x a. upto_if (has_scheme x.0) _ _ n (upto_ok x n a) (upto_err _ n))

upto_iri_needed : (rest : List ℕ) (n : ℕ) → length rest ≤ n → Upto (iri_needed rest) n
unfolding iri_needed
upto_iri_needed rest n le = upto_then (char_at rest) _ n (upto_char rest n (omega arith)) (λ c a. upto_if (nat_eq c.0 60) _ _ n (upto_iri rest c.1 n a) (upto_err _ n))

upto_kind : (start iri after : List ℕ) (n : ℕ) → length after ≤ n → Upto (kind_given start iri after) n
unfolding kind_given
upto_kind start iri after n le = upto_if _ _ _ n (upto_err _ n) (upto_if _ _ _ n (upto_ok _ n le) (upto_ok _ n le))

upto_datatype : (start rest : List ℕ) (n : ℕ) → length rest ≤ n → Upto (datatype_at start rest) n
unfolding datatype_at
upto_datatype start rest n le = upto_then (char_at rest) _ n (upto_char rest n (omega arith)) (λ hat a.
    upto_if (nat_eq hat.0 94) _ _ n
    (upto_then (iri_needed (skip_blanks hat.1)) _ n (upto_iri_needed (skip_blanks hat.1) n (upto_blanks hat.1 n a)) (λ iri b. upto_kind start iri.0 iri.1 n b))
    (upto_err _ n))

upto_typed : (start rest more : List ℕ) (n : ℕ) → length rest ≤ n → length more ≤ n → Upto (typed_at start rest more) n
unfolding typed_at
upto_typed start rest [] n le others = upto_ok _ n le
upto_typed start rest (b ∷ more) n le others = upto_if (nat_eq b 94) _ _ n (upto_datatype start more n (omega arith)) (upto_ok _ n le)

upto_suffix : (start rest : List ℕ) (n : ℕ) → length rest ≤ n → Upto (suffix_at start rest) n
unfolding suffix_at
upto_suffix start [] n le = upto_ok _ n le
upto_suffix start (b ∷ rest) n le = upto_if (nat_eq b 64) _ _ n
    (upto_then (tag_at true false (b ∷ rest) rest) _ n (upto_tag (b ∷ rest) rest n (omega arith)) (λ tag a. upto_ok _ n a))
    (upto_typed start (b ∷ rest) (skip_blanks (b ∷ rest)) n le (upto_blanks (b ∷ rest) n le))

upto_literal : (start rest : List ℕ) (n : ℕ) → length rest ≤ n → Upto (literal_at start rest) n
unfolding literal_at
upto_literal start rest n le = upto_then (string_body_at rest) _ n (upto_string_body rest n le) (λ text a. upto_then (suffix_at start text.1) _ n (upto_suffix start text.1 n a) (λ kind b. upto_ok _ n b))

pub upto_term : (rest : List ℕ) (n : ℕ) → length rest ≤ suc n → Upto (term_at rest) n
unfolding term_at
upto_term rest n le = upto_then (char_at rest) _ n (upto_char rest n le) (λ c a.
    upto_if (nat_eq c.0 60) _ _ n (upto_then (iri_at rest c.1) _ n (upto_iri rest c.1 n a) (λ iri b. upto_ok _ n b))
    (upto_if (nat_eq c.0 95) _ _ n (upto_then (label_at rest c.1) _ n (upto_label rest c.1 n a) (λ label b. upto_ok _ n b))
    (upto_if (nat_eq c.0 34) _ _ n (upto_then (literal_at rest c.1) _ n (upto_literal rest c.1 n a) (λ literal b. upto_ok _ n b)) (upto_err _ n))))

upto_node : (rest : List ℕ) (n : ℕ) → length rest ≤ suc n → Upto (node_at rest) n
unfolding node_at
upto_node rest n le = upto_then (term_at rest) _ n (upto_term rest n le) (λ t a. upto_if _ _ _ n (upto_err _ n) (upto_ok t n a))

upto_predicate : (rest : List ℕ) (n : ℕ) → length rest ≤ suc n → Upto (predicate_at rest) n
unfolding predicate_at
upto_predicate rest n le = upto_then (term_at rest) _ n (upto_term rest n le) (λ t a. upto_if _ _ _ n (upto_ok t n a) (upto_err _ n))

upto_dot : (rest : List ℕ) (n : ℕ) → length rest ≤ n → Upto (final_dot_at rest) n
unfolding final_dot_at
upto_dot rest n le = upto_then (char_at rest) _ n (upto_char rest n (omega arith)) (λ c a. upto_if _ _ _ n (upto_ok _ n a) (upto_err _ n))

upto_graph : (rest : List ℕ) (n : ℕ) → length rest ≤ n → Upto (graph_at rest) n
unfolding graph_at
upto_graph rest n le = upto_then (char_at rest) _ n (upto_char rest n (omega arith)) (λ c a.
    upto_if _ _ _ n
    (upto_then (node_at rest) _ n (upto_node rest n (omega arith)) (λ g b. upto_then (final_dot_at (skip_blanks g.1)) _ n (upto_dot (skip_blanks g.1) n (upto_blanks g.1 n b)) (λ dot d. upto_ok _ n d)))
    (upto_dot rest n le))

pub upto_statement : (rest : List ℕ) (n : ℕ) → length rest ≤ suc n → Upto (statement_at rest) n
unfolding statement_at
upto_statement rest n le =
    upto_then (node_at rest) _ n (upto_node rest n le) (λ s a.
    upto_then (predicate_at (skip_blanks s.1)) _ n (upto_predicate (skip_blanks s.1) n (let l = blanks s.1 in omega arith)) (λ p b.
    upto_then (term_at (skip_blanks p.1)) _ n (upto_term (skip_blanks p.1) n (let l = blanks p.1 in omega arith)) (λ o d.
    upto_then (graph_at (skip_blanks o.1)) _ n (upto_graph (skip_blanks o.1) n (upto_blanks o.1 n d)) (λ g f. upto_ok _ n f))))

-- ---- the parts of a document

drop_short : (k : ℕ) (rest : List ℕ) → length (drop k rest) ≤ length rest
drop_short k rest = let l = length-drop k rest in omega arith

upto_comment : (k : ℕ) (rest : List ℕ) (n : ℕ) → length rest ≤ n → Upto (comment_at k rest) n
unfolding comment_at
upto_comment zero [] n le = upto_ok _ n le
upto_comment (suc k) [] n le = upto_ok _ n le
upto_comment (suc k) (b ∷ rest) n le = upto_comment k rest n (omega arith)
upto_comment zero (b ∷ rest) n le = upto_if (is_line_end b) _ _ n (upto_ok _ n le)
    (upto_then (char_at (b ∷ rest)) _ n (upto_char (b ∷ rest) n (omega arith)) (λ c a. upto_comment (length rest - length c.1) rest n (omega arith)))

upto_no_end : (rest : List ℕ) (n : ℕ) → length rest ≤ n → Upto (no_end_at rest) n
unfolding no_end_at
upto_no_end rest n le = upto_then (char_at rest) _ n (upto_char rest n (omega arith)) (λ c a. upto_err _ n)

upto_end_by : (rest : List ℕ) (n : ℕ) → length rest ≤ n → Upto (end_by rest) n
upto_end_by [] n le = upto_ok _ n le
upto_end_by (b ∷ rest) n le = upto_if (is_line_end b) _ _ n (upto_ok _ n le) (upto_if (nat_eq b 35) _ _ n (upto_comment 0 rest n (omega arith)) (upto_no_end (b ∷ rest) n le))

upto_line_end : (rest : List ℕ) (n : ℕ) → length rest ≤ n → Upto (line_end_at rest) n
unfolding line_end_at
upto_line_end rest n le = upto_end_by (skip_blanks rest) n (upto_blanks rest n le)

upto_part_by : (rest : List ℕ) (n : ℕ) → length rest ≤ suc n → Upto (part_by rest) n
unfolding comment_part statement_part
upto_part_by [] n le = upto_ok _ n (omega arith)
upto_part_by (b ∷ rest) n le = upto_if (is_line_end b) _ _ n (upto_ok _ n (omega arith))
    (upto_if (nat_eq b 35) _ _ n
    (upto_then (comment_at 0 rest) _ n (upto_comment 0 rest n (omega arith)) (λ end a. upto_ok _ n a))
    (upto_then (statement_at (b ∷ rest)) _ n (upto_statement (b ∷ rest) n le) (λ q a. upto_then (line_end_at q.1) _ n (upto_line_end q.1 n a) (λ end d. upto_ok _ n d))))

pub upto_part : (rest : List ℕ) (n : ℕ) → length rest ≤ suc n → Upto (document_part_at rest) n
unfolding document_part_at
upto_part rest n le = upto_part_by (skip_blanks rest) n (let l = blanks rest in omega arith)

-- a part ends behind its place
pub part_further : (text : List ℕ) (at next : ℕ) (x : Option Statement) → at < length text → next ≤ length text → document_part_at (drop at text) ≡ Ok (x, drop next text) → at < next
part_further text at next x lt le e =
    let a = length-drop at text in let b = length-drop next text in
    let n : ℕ = length text - at - 1 in
    let short : length (drop next text) ≤ length text - at - 1 = upto_part (drop at text) (length text - at - 1) (omega arith) (x, drop next text) e in
    omega arith
