-- The parts of a row that stands in a text are values.
use Rattle.std.proofs.Common.{◌≡◌, ℕ, ◌<◌, Bool, true, false, cond, ◌&&◌, List, [], ◌∷◌, ◌++◌, Option, Some, None, refl, sym, ap, subst, ◌∙◌, ⊎_elim, arith}
use Rattle.std.specs.Char.{IsScalar, is_ascii_alphabetic}
use Rattle.std.specs.List.{list_all}
use Rattle.std.specs.Str.{IsUtf8, bytes_eq, encode_utf8_all}
use Rattle.std.proofs.lemmas.Bool.{and_parts}
use Rattle.std.proofs.lemmas.Bool.Decides.{nat_tests}
use Rattle.std.proofs.lemmas.Str.{IsUtf8-nil}
use lib.Utf8.{scalar, scalars, low_scalar}
use Rattle.rdf_terms.specs.Datatype.{xsd_string, lang_string}
use Rattle.rdf_terms.specs.Iri.{AllowedAll, IsIri}
use Rattle.rdf_terms.specs.Quad.{Statement, is_iri}
use Rattle.rdf_terms.specs.declared.change.Change.{Change}
use Rattle.rdf_terms.specs.declared.change.Change.TheVariants as change
use Rattle.rdf_terms.specs.declared.term.LiteralKind.{LiteralKind}
use Rattle.rdf_terms.specs.declared.term.LiteralKind.TheVariants.{Plain, Typed, Tagged}
use Rattle.rdf_terms.specs.declared.term.Term.{Term}
use Rattle.rdf_terms.specs.declared.term.Term.TheVariants as term
use Rattle.nquads_text.specs.Grammar.{IriPiece, StringPiece, Spells, IsIriRef, IsString, Suffix, TermAt, echar, kind_with}
use Rattle.nquads_text.specs.Printing.{HasTermValues, IsGraphValue, IsKind, IsTermValue}
use Rattle.nquads_text.specs.Reading.{iri_piece}
use Rattle.nquads_text.proofs.Allowed.{pieces_allowed}
use Rattle.nquads_text.proofs.InString.{reads_iri}
use Rattle.nquads_text.proofs.Spelled.{body_again}
use Rattle.nquads_text.proofs.TagLaws.{read_is_tag}
use Rattle.nquads_text.proofs.TagReads.{tag_is_read}
use Rattle.nquads_text.proofs.Utf8Terms.{behind}
use Rattle.patch_rows.specs.declared.row.Row.{Row}
use Rattle.patch_rows.specs.declared.row.Row.TheVariants as row
use Rattle.patch_rows.specs.Grammar.{is_word_byte, IsKey, RowTerm, PrefixAt, PrefixIriAt, plain, GraphAt, QuadAt, ChangeAt, PartsAt, RowAt}
use Rattle.patch_rows.specs.Printing.{IsChangeValue, IsRowValue}
use Rattle.printed_rows.specs.Laws.{RowsHaveValues}

-- ---- characters

iri_scalar : (bytes : List ℕ) (c : ℕ) → IriPiece bytes c → IsScalar c
iri_scalar bytes c p = ⊎_elim (λ a. a.0) (λ u. u.0) p.1

echar_low : (letter c : ℕ) → echar letter ≡ Some c → c < 128
echar_low letter c e = grind (arith, nat_tests)

string_scalar : (bytes : List ℕ) (c : ℕ) → StringPiece bytes c → IsScalar c
string_scalar bytes c p =
    ⊎_elim (λ a. a.0.0)
    (λ escape. ⊎_elim (λ short. let low = echar_low short.0 c short.1 in low_scalar c (omega (arith, low))) (λ u. u.0) escape) p

spelled : (Piece : List ℕ → ℕ → Type 0) → ((bytes : List ℕ) (c : ℕ) → Piece bytes c → IsScalar c) → (bytes cs : List ℕ) → Spells Piece bytes cs → scalars cs ≡ true
spelled Piece each bytes [] s = refl
spelled Piece each bytes (c ∷ cs) s = ap (λ (b : Bool). b && scalars cs) (each s.0 c s.3) ∙ spelled Piece each s.1 cs s.4

iri_value : (bytes iri : List ℕ) → IsIriRef bytes iri → IsUtf8 iri × IsIri iri
iri_value bytes iri r =
    let read = body_again iri_piece IriPiece 62 reads_iri r.0 r.1 [] r.3 in (
      subst IsUtf8 (sym r.4) (r.1, (spelled IriPiece iri_scalar r.0 r.1 r.3, refl)),
      record {
        allowed = subst AllowedAll (sym r.4) (pieces_allowed 0 (r.0 ++ 62 ∷ []) (encode_utf8_all r.1, []) read);
        scheme = r.5;
      },
    )

string_value : (bytes text : List ℕ) → IsString bytes text → IsUtf8 text
string_value bytes text s = subst IsUtf8 (sym s.4) (s.1, (spelled StringPiece string_scalar s.0 s.1 s.3, refl))

-- ---- terms

datatype_value : (iri : List ℕ) → IsUtf8 iri × IsIri iri → bytes_eq iri lang_string ≡ false → IsKind (kind_with iri)
datatype_value iri v no_lang = by (bytes_eq iri xsd_string) refl
  where
    by : (b : Bool) → bytes_eq iri xsd_string ≡ b → IsKind (cond b Plain (Typed iri))
    by true e = tt
    by false e = (v.0, (v.1, e, no_lang))

kind_value : (text : List ℕ) (kind : LiteralKind) (after : List ℕ) → Suffix text kind after → IsKind kind
kind_value text kind after (Suffix.plain no_at no_hat is rest) = subst IsKind (sym is) tt
kind_value text kind after (Suffix.typed iri at no_lang is) = subst IsKind (sym is) (datatype_value iri (iri_value at.6.0 iri at.6.1) no_lang)
kind_value text kind after (Suffix.tagged tag at is) =
    subst IsKind (sym is) (read_is_tag [] at.0 _ after (tag_is_read [] at.0 tag after at.2 at.3))

term_value : (text : List ℕ) (t : Term) (after : List ℕ) → TermAt text t after → IsTermValue t
term_value text (term.Iri iri) after r = iri_value r.0 iri r.1
term_value text (term.Blank label) after b = b.2.0
term_value text (term.Literal literal) after l = (string_value l.0 literal.lexical l.2, kind_value l.1 literal.kind after l.4)

row_term_value : (text : List ℕ) (t : Term) (after : List ℕ) → RowTerm text t after → IsTermValue t
row_term_value text t after r = ⊎_elim (λ at. term_value text t after at) (λ b. subst IsTermValue (sym b.3) b.2) r

-- ---- keys and prefixes

word_low : (b : ℕ) → is_word_byte b ≡ true → b < 128
word_low b e = grind (arith, nat_tests)

letter_low : (b : ℕ) → is_ascii_alphabetic b ≡ true → b < 128
letter_low b e = grind (arith, nat_tests)

word_utf8 : (bytes : List ℕ) → list_all is_word_byte bytes ≡ true → IsUtf8 bytes
word_utf8 [] e = IsUtf8-nil
word_utf8 (b ∷ bytes) e =
    let both = and_parts (is_word_byte b) (list_all is_word_byte bytes) e in
    behind b bytes (word_low b both.0) (word_utf8 bytes both.1)

key_utf8 : (key : List ℕ) → IsKey key → IsUtf8 key
key_utf8 [] k = absurd k
key_utf8 (b ∷ bytes) k = behind b bytes (letter_low b k.0) (word_utf8 bytes k.1)

prefix_value : (text prefix after : List ℕ) → PrefixAt text prefix after → IsUtf8 prefix
prefix_value text prefix after (PrefixAt.string at) = (row_term_value text (plain prefix) after at).0
prefix_value text prefix after (PrefixAt.word at no_colon) = key_utf8 prefix at.0
prefix_value text prefix after (PrefixAt.word_colon at) = key_utf8 prefix at.0
prefix_value text prefix after (PrefixAt.colon at is) = subst IsUtf8 (sym is) IsUtf8-nil

prefix_iri_value : (text iri after : List ℕ) → PrefixIriAt text iri after → IsUtf8 iri × IsIri iri
prefix_iri_value text iri after (PrefixIriAt.reference at) = row_term_value text (term.Iri iri) after at
prefix_iri_value text iri after (PrefixIriAt.string at is) = ((row_term_value text (plain iri) after at).0, is)

-- ---- rows

graph_value : (text : List ℕ) (g : Option Term) (after : List ℕ) → GraphAt text g after → IsGraphValue g
graph_value text None after e = tt
graph_value text (Some g) after e = row_term_value e.1.0 g e.0 e.1.2.0

quad_value : (text : List ℕ) (q : Statement) (after : List ℕ) → QuadAt text q after → HasTermValues q
quad_value text q after e = (
  row_term_value e.3.0 q.subject e.0 e.3.2.0,
  row_term_value e.4.0 q.predicate e.1 e.4.2.0,
  row_term_value e.5.0 q.object e.2 e.5.2.0,
  graph_value e.2 q.graph after e.6,
)

change_value : (text : List ℕ) (c : Change) (after : List ℕ) → ChangeAt text c after → IsChangeValue c
change_value text (change.Add q) after e = quad_value text q after e
change_value text (change.Delete q) after e = quad_value text q after e
change_value text (change.PrefixAdd prefix iri g) after e =
    let i = prefix_iri_value e.3.0 iri e.1 e.3.2 in (prefix_value e.2.0 prefix e.0 e.2.2, i.0, i.1, graph_value e.1 g after e.4)
change_value text (change.PrefixDelete prefix g) after e = (prefix_value e.1.0 prefix e.0 e.1.2, graph_value e.0 g after e.2)
change_value text change.Begin after e = tt
change_value text change.Commit after e = tt
change_value text change.Abort after e = tt

parts_value : (text : List ℕ) (r : Row) (after : List ℕ) → PartsAt text r after → IsRowValue r
parts_value text (row.Header key value) after e = (key_utf8 key e.2.2.0, row_term_value e.3.0 value e.1 e.3.2.0)
parts_value text (row.Change c) after e = change_value text c after e

pub row_value : RowsHaveValues
unfolding RowAt
row_value text r after e = parts_value e.0 r after e.2
