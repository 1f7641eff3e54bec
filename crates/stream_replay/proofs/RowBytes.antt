-- How many bytes the line of a quad has beside those of a row that says it.
use Rattle.std.proofs.Common.{◌≡◌, ℕ, suc, ◌+◌, ◌*◌, ◌<◌, ◌≤◌, Bool, true, false, cond, List, [], ◌∷◌, ◌++◌, length, get_or, Option, Some, None, refl, sym, ap, ◌∙◌, inl, inr, ⊎_elim, append-nil, length-append, arith}
use Rattle.std.specs.Prelude.{nat_eq, ◌||◌}
use Rattle.std.specs.List.{flat_map}
use Rattle.std.specs.Char.{encode_utf8, to_ascii_lowercase}
use Rattle.std.specs.Str.{encode_utf8_all, bytes_eq}
use Rattle.std.proofs.lemmas.Bool.{cases_lt}
use Rattle.std.proofs.lemmas.Bool.Decides.{nat_tests}
use Rattle.std.proofs.lemmas.List.{length-map}
use Rattle.std.proofs.lemmas.Str.{encode_ascii, inside_one, length-encode, len_utf8_bounds}
use Rattle.std.proofs.lemmas.List.Concat.{flat_map-append}
use Rattle.rdf_terms.specs.declared.term.LiteralKind.{LiteralKind}
use Rattle.rdf_terms.specs.declared.term.LiteralKind.TheVariants.{Plain, Typed}
use Rattle.rdf_terms.specs.declared.term.Literal.{Literal}
use Rattle.rdf_terms.specs.declared.term.Term.{Term}
use Rattle.rdf_terms.specs.declared.term.Term.TheVariants as term
use Rattle.rdf_terms.specs.declared.change.Change.TheVariants as change
use Rattle.rdf_terms.specs.Datatype.{xsd_string}
use Rattle.rdf_terms.specs.Line.{escaped, graph_text, iri_text, kind_text, line, quoted, term_text}
use Rattle.rdf_terms.specs.Quad.{Statement, is_iri}
use Rattle.nquads_text.specs.Grammar.{echar, BlankNode, IriPiece, IriRef, LiteralAt, Spells, StringPiece, Suffix, TermAt, UcharForm}
use Rattle.nquads_text.specs.Grammar.Suffix.{plain, typed, tagged}
use Rattle.patch_rows.specs.declared.row.Row.TheVariants as row
use Rattle.patch_rows.specs.Grammar.{is_any, is_node, EndAt, GraphAt, InBrackets, Placed, QuadAt, RowAt, RowTerm, Space, Spaced}

-- ---- characters

escaped_most : (b : ℕ) → length (escaped b) ≤ 2
escaped_most b = grind (arith, nat_tests)

high_itself : (b : ℕ) → 128 ≤ b → escaped b ≡ b ∷ []
high_itself b le = grind (arith, nat_tests)

low_itself : (b : ℕ) → nat_eq b 34 ≡ false → nat_eq b 92 ≡ false → (nat_eq b 10 || nat_eq b 13) ≡ false → escaped b ≡ b ∷ []
low_itself b quote back feed = grind (arith, nat_tests)

all_high : (bytes : List ℕ) → ((k : ℕ) → k < length bytes → 128 ≤ get_or bytes k 0) → flat_map escaped bytes ≡ bytes
all_high [] each = refl
all_high (b ∷ bytes) each =
    ap (λ (t : List ℕ). t ++ flat_map escaped bytes) (high_itself b (each 0 (omega arith))) ∙ ap (λ (t : List ℕ). b ∷ t) (all_high bytes (λ k lt. each (suc k) (omega arith)))

high_bytes : (c k : ℕ) → 128 ≤ c → k < length (encode_utf8 c) → 128 ≤ get_or (encode_utf8 c) k 0
high_bytes c k le lt =
    elim (cases_lt (get_or (encode_utf8 c) k 0) 128) [
      | inl low ↦ let same = inside_one c [] (encode_utf8 c) k (sym (append-nil (encode_utf8 c))) lt low in absurd (omega (arith, same))
      | inr high ↦ high
    ]

high_char : (c : ℕ) → 128 ≤ c → flat_map escaped (encode_utf8 c) ≡ encode_utf8 c
high_char c le = all_high (encode_utf8 c) (λ k lt. high_bytes c k le lt)

low_char : (c : ℕ) → c < 128 → flat_map escaped (encode_utf8 c) ≡ escaped c
low_char c low = ap (flat_map escaped) (encode_ascii c low) ∙ append-nil (escaped c)

low_most : (c : ℕ) → c < 128 → length (flat_map escaped (encode_utf8 c)) ≤ 2
low_most c low = omega (arith, ap length (low_char c low), escaped_most c)

char_most : (c : ℕ) → length (flat_map escaped (encode_utf8 c)) ≤ 4
char_most c =
    elim (cases_lt c 128) [
      | inl low ↦ omega (arith, low_most c low)
      | inr le ↦ omega (arith, ap length (high_char c le), length-encode c, (len_utf8_bounds c).1)
    ]

plain_most : (c : ℕ) → nat_eq c 34 ≡ false → nat_eq c 92 ≡ false → (nat_eq c 10 || nat_eq c 13) ≡ false → length (flat_map escaped (encode_utf8 c)) ≤ length (encode_utf8 c)
plain_most c quote back feed =
    elim (cases_lt c 128) [
      | inl low ↦ omega (arith, ap length (low_char c low ∙ low_itself c quote back feed ∙ sym (encode_ascii c low)))
      | inr le ↦ omega (arith, ap length (high_char c le))
    ]

echar_low : (letter c : ℕ) → echar letter ≡ Some c → c < 128
echar_low letter c is = grind (arith, nat_tests)

uchar_least : (bytes : List ℕ) (c : ℕ) → UcharForm bytes c → 6 ≤ length bytes
uchar_least bytes c (inl (digits, (a, b, x, d, hex, four, n), is)) = omega (arith, ap length is, ap length four)
uchar_least bytes c (inr (digits, (high, low, h, l, (a, b, x, d, hex, four, n), (a', b', x', d', hex', four', n'), both, m), is)) = omega (arith, ap length is, ap length both, length-append high low, ap length four, ap length four')

-- ---- tokens

iri_bytes : (body cs : List ℕ) → Spells IriPiece body cs → length (encode_utf8_all cs) ≤ length body
iri_bytes body [] spelled = omega arith
iri_bytes body (c ∷ cs) (front, rest, is, (allowed, piece), more) =
    let first : length (encode_utf8 c) ≤ length front = ⊎_elim (λ plain. omega (arith, ap length plain.1)) (λ uchar. omega (arith, uchar_least front c uchar.1, length-encode c, (len_utf8_bounds c).1)) piece in
    omega (arith, ap length is, length-append front rest, length-append (encode_utf8 c) (encode_utf8_all cs), first, iri_bytes rest cs more)

string_bytes : (body cs : List ℕ) → Spells StringPiece body cs → length (flat_map escaped (encode_utf8_all cs)) ≤ length body
string_bytes body [] spelled = omega arith
string_bytes body (c ∷ cs) (front, rest, is, piece, more) =
    let first : length (flat_map escaped (encode_utf8 c)) ≤ length front =
    ⊎_elim (λ plain. omega (arith, ap length plain.0.1, plain_most c plain.1 plain.2 plain.3))
    (λ other. ⊎_elim (λ echar. omega (arith, ap length echar.2, low_most c (echar_low echar.0 c echar.1))) (λ uchar. omega (arith, uchar_least front c uchar.1, char_most c)) other) piece in
    omega (arith, ap length is, length-append front rest, ap length (flat_map-append escaped (encode_utf8 c) (encode_utf8_all cs)), length-append (flat_map escaped (encode_utf8 c)) (flat_map escaped (encode_utf8_all cs)), first, string_bytes rest cs more)

-- ---- terms

iri_ref : (text iri after : List ℕ) → IriRef text iri after → length (iri_text iri) + length after ≤ length text
iri_ref text iri after (bytes, (body, cs, is, spelled, iri_is, scheme), there) =
    omega (arith, ap length there, length-append bytes after, ap length is, length-append (60 ∷ body) (62 ∷ []), ap length iri_is, length-append (60 ∷ iri) (62 ∷ []), iri_bytes body cs spelled)

blank_node : (text label after : List ℕ) → BlankNode text label after → 2 + length label + length after ≤ length text
blank_node text label after (behind, is, (form, there, longest)) = omega (arith, ap length is, ap length there, length-append label after)

in_brackets : (text label after : List ℕ) → InBrackets text label after → 2 + length label + length after ≤ length text
in_brackets text label after (body, cs, is, spelled, there) =
    omega (arith, ap length is, length-append body (62 ∷ after), ap length there, iri_bytes body cs spelled)

kind_most : (iri : List ℕ) (is : Bool) → length (kind_text (cond is Plain (Typed iri))) ≤ 2 + length (iri_text iri)
kind_most iri true = omega arith
kind_most iri false = omega arith

suffix : (text : List ℕ) (kind : LiteralKind) (after : List ℕ) → Suffix text kind after → length (kind_text kind) + length after ≤ length text
suffix text kind after (plain none hat is there) = omega (arith, ap (λ (k : LiteralKind). length (kind_text k)) is, ap length there)
suffix text kind after (typed iri (blanks, between, behind, white, spaces, there, ref) free is) =
    omega (arith, ap (λ (k : LiteralKind). length (kind_text k)) is, kind_most iri (bytes_eq iri xsd_string), iri_ref behind iri after ref, ap length there, length-append blanks (94 ∷ 94 ∷ (between ++ behind)), length-append between behind)
suffix text kind after (tagged tag (behind, there, (form, split, longest), dash) is) =
    omega (arith, ap (λ (k : LiteralKind). length (kind_text k)) is, length-map tag to_ascii_lowercase, ap length there, ap length split, length-append tag after)

literal_at : (text : List ℕ) (literal : Literal) (after : List ℕ) → LiteralAt text literal after → length (term_text (term.Literal literal)) + length after ≤ length text
literal_at text literal after (bytes, behind, (body, cs, is, spelled, lexical), there, end) =
    omega (
      arith,
      ap length there,
      length-append bytes behind,
      ap length is,
      length-append (34 ∷ body) (34 ∷ []),
      ap (λ (t : List ℕ). length (flat_map escaped t)) lexical,
      string_bytes body cs spelled,
      suffix behind literal.kind after end,
      length-append (quoted literal.lexical) (kind_text literal.kind),
      length-append (34 ∷ flat_map escaped literal.lexical) (34 ∷ []),
    )

term_at : (text : List ℕ) (t : Term) (after : List ℕ) → TermAt text t after → length (term_text t) + length after ≤ length text
term_at text (term.Iri iri) after is = iri_ref text iri after is
term_at text (term.Blank label) after is = omega (arith, blank_node text label after is)
term_at text (term.Literal literal) after is = literal_at text literal after is

row_term : (text : List ℕ) (t : Term) (after : List ℕ) → RowTerm text t after → length (term_text t) + length after ≤ length text
row_term text t after (inl is) = term_at text t after is
row_term text t after (inr (label, there, form, is)) = omega (arith, ap (λ (t : Term). length (term_text t)) is, in_brackets text label after there)

term_least : (t : Term) → 2 ≤ length (term_text t)
term_least (term.Iri iri) = omega (arith, length-append (60 ∷ iri) (62 ∷ []))
term_least (term.Blank label) = omega arith
term_least (term.Literal literal) = omega (arith, length-append (quoted literal.lexical) (kind_text literal.kind), length-append (34 ∷ flat_map escaped literal.lexical) (34 ∷ []))

-- ---- rows

space : (text after : List ℕ) → Space text after → length after ≤ length text
space text after (gaps, (form, there, longest)) = omega (arith, ap length there, length-append gaps after)

spaced : (fits : Term → Bool) (text : List ℕ) (t : Term) (after : List ℕ) → Spaced (Placed fits) text t after → length (term_text t) + length after ≤ length text
spaced fits text t after (from, gap, (there, may)) = omega (arith, space text from gap, row_term from t after there)

end_at : (text after : List ℕ) → EndAt text after → 1 + length after ≤ length text
end_at text after (from, gap, is) = omega (arith, space text from gap, ap length is)

-- a graph comes with two bytes at least
graph_at : (text : List ℕ) (graph : Option Term) (after : List ℕ) → GraphAt text graph after → (2 * length (graph_text graph) + 3 + 3 * length after ≤ 3 * length text) × (1 + length after ≤ length text)
graph_at text None after end = let least = end_at text after end in (omega arith, least)
graph_at text (Some g) after (behind, there, end) =
    let least = end_at behind after end in let size = spaced is_node text g behind there in let some = term_least g in (omega arith, omega arith)

-- the line of a quad has at most half as many bytes again as what stands behind the row's code, and that has 7 bytes
quad_at : (text : List ℕ) (q : Statement) (after : List ℕ) → QuadAt text q after → (2 * length (line q) + 3 * length after ≤ 3 * length text + 3) × (7 + length after ≤ length text)
unfolding line
quad_at text q after (s, p, o, subject, predicate, object, graph) =
    let a = spaced is_node text q.subject s subject in let b = spaced is_iri s q.predicate p predicate in let c = spaced is_any p q.object o object in let d = graph_at o q.graph after graph in
    let e = term_least q.subject in let f = term_least q.predicate in let g = term_least q.object in (
      omega (
        arith,
        length-append (term_text q.subject) (32 ∷ (term_text q.predicate ++ 32 ∷ (term_text q.object ++ (graph_text q.graph ++ (32 ∷ 46 ∷ 10 ∷ []))))),
        length-append (term_text q.predicate) (32 ∷ (term_text q.object ++ (graph_text q.graph ++ (32 ∷ 46 ∷ 10 ∷ [])))),
        length-append (term_text q.object) (graph_text q.graph ++ (32 ∷ 46 ∷ 10 ∷ [])),
        length-append (graph_text q.graph) (32 ∷ 46 ∷ 10 ∷ []),
      ),
      omega arith,
    )

-- so it has of the row, which has 8 bytes at least
abbrev pub FitsRow : List ℕ → Statement → List ℕ → Type 0
FitsRow text q after = (2 * length (line q) + 3 * length after ≤ 3 * length text) × (8 + length after ≤ length text)

pub added : (text : List ℕ) (q : Statement) (after : List ℕ) → RowAt text (row.Change (change.Add q)) after → FitsRow text q after
unfolding RowAt
added text q after (behind, ((form, there, longest), more), parts) = let size = quad_at behind q after parts in (omega (arith, ap length there), omega (arith, ap length there))

pub deleted : (text : List ℕ) (q : Statement) (after : List ℕ) → RowAt text (row.Change (change.Delete q)) after → FitsRow text q after
unfolding RowAt
deleted text q after (behind, ((form, there, longest), more), parts) = let size = quad_at behind q after parts in (omega (arith, ap length there), omega (arith, ap length there))
