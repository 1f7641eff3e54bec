-- The text of a term is in UTF-8.
use Rattle.std.proofs.Common.{◌≡◌, ℕ, suc, ◌<◌, ◌≤◌, Bool, true, false, cond, List, [], ◌∷◌, ◌++◌, length, get_or, refl, sym, ap, subst, ◌∙◌, inl, inr, arith, append-nil, nat_eq}
use Rattle.std.specs.List.{flat_map, list_all}
use Rattle.std.specs.Str.{encode_utf8_all, IsUtf8}
use Rattle.std.specs.Char.{encode_utf8, IsScalar, is_ascii_alphabetic, is_ascii_alphanumeric}
use Rattle.std.specs.Prelude.{Option, Some, None}
use Rattle.std.proofs.lemmas.Bool.{cases_lt, and_parts}
use Rattle.std.proofs.lemmas.Bool.Decides.{nat_tests}
use Rattle.std.proofs.lemmas.List.Concat.{flat_map-append}
use Rattle.std.proofs.lemmas.Str.{encode_ascii, inside_one, IsUtf8-append, IsUtf8-encode, IsUtf8-nil}
use lib.Utf8.{scalar, scalars}
use Rattle.rdf_terms.specs.Label.{IsLabel}
use Rattle.rdf_terms.specs.Tag.{IsTag, AreWords}
use Rattle.rdf_terms.specs.Line.{escaped, quoted, kind_text, term_text, graph_text}
use Rattle.rdf_terms.specs.declared.term.LiteralKind.{LiteralKind}
use Rattle.rdf_terms.specs.declared.term.LiteralKind.TheVariants.{Plain, Typed, Tagged}
use Rattle.rdf_terms.specs.declared.term.Term.{Term}
use Rattle.rdf_terms.specs.declared.term.Term.TheVariants as term
use Rattle.nquads_text.specs.Printing.{IsKind, IsGraphValue, IsTermValue}

-- ---- ASCII

low_scalar : (c : ℕ) → c < 128 → IsScalar c
low_scalar c lt = grind (arith, nat_tests)

pub one : (c : ℕ) → c < 128 → IsUtf8 (c ∷ [])
one c lt = subst IsUtf8 (encode_ascii c lt) (IsUtf8-encode c (low_scalar c lt))

pub behind : (c : ℕ) (text : List ℕ) → c < 128 → IsUtf8 text → IsUtf8 (c ∷ text)
behind c text lt is = IsUtf8-append (c ∷ []) text (one c lt) is

pub between : (a z : ℕ) (text : List ℕ) → a < 128 → z < 128 → IsUtf8 text → IsUtf8 ((a ∷ text) ++ (z ∷ []))
between a z text low low' is = IsUtf8-append (a ∷ text) (z ∷ []) (behind a text low is) (one z low')

-- ---- strings

either : (b : Bool) (x y : List ℕ) → IsUtf8 x → IsUtf8 y → IsUtf8 (cond b x y)
either true x y is other = is
either false x y is other = other

slashed : (c : ℕ) → c < 128 → IsUtf8 (92 ∷ c ∷ [])
slashed c lt = behind 92 (c ∷ []) (omega arith) (one c lt)

low_escaped : (c : ℕ) → c < 128 → IsUtf8 (escaped c)
low_escaped c lt =
    either (nat_eq c 34) _ _ (slashed 34 (omega arith)) (either (nat_eq c 92) _ _ (slashed 92 (omega arith)) (either (nat_eq c 10) _ _ (slashed 110 (omega arith)) (either (nat_eq c 13) _ _ (slashed 114 (omega arith)) (one c lt))))

high_byte : (b : ℕ) → 128 ≤ b → escaped b ≡ b ∷ []
high_byte b le = grind (arith, nat_tests)

high_bytes : (bytes : List ℕ) → ((k : ℕ) → k < length bytes → 128 ≤ get_or bytes k 0) → flat_map escaped bytes ≡ bytes
high_bytes [] each = refl
high_bytes (b ∷ bytes) each =
    let first : escaped b ≡ b ∷ [] = high_byte b (each 0 (omega arith)) in
    let others = high_bytes bytes (λ k lt. each (suc k) (omega arith)) in
    ap (λ (t : List ℕ). t ++ flat_map escaped bytes) first ∙ ap (λ (t : List ℕ). b ∷ t) others

high_char : (c k : ℕ) → 128 ≤ c → k < length (encode_utf8 c) → 128 ≤ get_or (encode_utf8 c) k 0
high_char c k le lt =
    elim (cases_lt (get_or (encode_utf8 c) k 0) 128) [
      | inl low ↦ let same = inside_one c [] (encode_utf8 c) k (sym (append-nil (encode_utf8 c))) lt low in absurd (omega (arith, same))
      | inr high ↦ high
    ]

char_escaped : (c : ℕ) → IsScalar c → IsUtf8 (flat_map escaped (encode_utf8 c))
char_escaped c s =
    elim (cases_lt c 128) [
      | inl low ↦ subst IsUtf8 (ap (flat_map escaped) (sym (encode_ascii c low))) (IsUtf8-append (escaped c) [] (low_escaped c low) IsUtf8-nil)
      | inr le ↦ subst IsUtf8 (sym (high_bytes (encode_utf8 c) (λ k lt. high_char c k le lt))) (IsUtf8-encode c s)
    ]

chars_escaped : (cs : List ℕ) → scalars cs ≡ true → IsUtf8 (flat_map escaped (encode_utf8_all cs))
chars_escaped [] s = IsUtf8-nil
chars_escaped (c ∷ cs) s =
    let t = and_parts (scalar c) (scalars cs) s in
    subst IsUtf8 (sym (flat_map-append escaped (encode_utf8 c) (encode_utf8_all cs))) (IsUtf8-append _ _ (char_escaped c t.0) (chars_escaped cs t.1))

pub quoted_utf8 : (text : List ℕ) → IsUtf8 text → IsUtf8 (quoted text)
quoted_utf8 text t = between 34 34 (flat_map escaped text) (omega arith) (omega arith) (subst (λ (b : List ℕ). IsUtf8 (flat_map escaped b)) t.1.1 (chars_escaped t.0 t.1.0))

-- ---- tags and labels

word_utf8 : (test : ℕ → Bool) → ((c : ℕ) → test c ≡ true → c < 128) → (word : List ℕ) → list_all test word ≡ true → IsUtf8 word
word_utf8 test low [] all = IsUtf8-nil
word_utf8 test low (c ∷ word) all =
    let p = and_parts (test c) (list_all test word) all in
    behind c word (low c p.0) (word_utf8 test low word p.1)

low_letter : (c : ℕ) → is_ascii_alphabetic c ≡ true → c < 128
low_letter c is = grind (arith, nat_tests)

low_sign : (c : ℕ) → is_ascii_alphanumeric c ≡ true → c < 128
low_sign c is = grind (arith, nat_tests)

words_utf8 : (parts : List (List ℕ)) → AreWords is_ascii_alphanumeric parts → IsUtf8 (flat_map (λ part. 45 ∷ part) parts)
words_utf8 [] are = IsUtf8-nil
words_utf8 (part ∷ parts) are =
    IsUtf8-append (45 ∷ part) _ (behind 45 part (omega arith) (word_utf8 is_ascii_alphanumeric low_sign part are.0.1)) (words_utf8 parts are.1)

tag_utf8 : (tag : List ℕ) → IsTag tag → IsUtf8 tag
unfolding IsTag
tag_utf8 tag is =
    let form = is.0 in
    subst IsUtf8 (sym form.4) (IsUtf8-append form.0 _ (word_utf8 is_ascii_alphabetic low_letter form.0 form.2.1) (words_utf8 form.1 form.3))

label_utf8 : (label : List ℕ) → IsLabel label → IsUtf8 label
unfolding IsLabel
label_utf8 label is = (is.0, (is.1, sym is.2))

-- ---- terms

kind_utf8 : (kind : LiteralKind) → IsKind kind → IsUtf8 (kind_text kind)
kind_utf8 Plain is = IsUtf8-nil
kind_utf8 (Typed iri) is = behind 94 _ (omega arith) (behind 94 _ (omega arith) (between 60 62 iri (omega arith) (omega arith) is.0))
kind_utf8 (Tagged tag) is = behind 64 tag (omega arith) (tag_utf8 tag is)

pub term_utf8 : (t : Term) → IsTermValue t → IsUtf8 (term_text t)
term_utf8 (term.Iri iri) is = between 60 62 iri (omega arith) (omega arith) is.0
term_utf8 (term.Blank label) is = behind 95 _ (omega arith) (behind 58 label (omega arith) (label_utf8 label is))
term_utf8 (term.Literal literal) is = IsUtf8-append _ _ (quoted_utf8 literal.lexical is.0) (kind_utf8 literal.kind is.1)

pub graph_utf8 : (graph : Option Term) → IsGraphValue graph → IsUtf8 (graph_text graph)
graph_utf8 None is = IsUtf8-nil
graph_utf8 (Some g) is = behind 32 _ (omega arith) (term_utf8 g is)
