-- What is printed is a term of the grammar, whatever follows that can't go on with it.
use Rattle.std.proofs.Common.{◌≡◌, ℕ, suc, ◌<◌, ◌≤◌, Bool, true, false, not, IsTrue, List, [], ◌∷◌, ◌++◌, length, get_or, nat_eq, refl, sym, ap, subst, ◌∙◌, inl, inr, ⊎_elim, arith, append_assoc}
use Rattle.std.specs.List.{flat_map, list_all}
use Rattle.std.specs.Str.{encode_utf8_all, bytes_eq, IsUtf8}
use Rattle.std.specs.Char.{encode_utf8, IsScalar}
use Rattle.std.proofs.lemmas.Bool.{cases_lt, cases_eq, and_parts, ne_eqb, eqb-true, false≢true}
use Rattle.std.proofs.lemmas.Bool.Decides.{nat_tests}
use Rattle.std.proofs.lemmas.List.{append-nil}
use Rattle.std.proofs.lemmas.List.Concat.{flat_map-append}
use Rattle.std.proofs.lemmas.List.Folds.{list_all-append}
use Rattle.std.proofs.lemmas.Str.{encode_ascii, inside_one}
use lib.Utf8.{scalar, scalars}
use Rattle.rdf_terms.specs.Iri.{is_forbidden, IsIri}
use Rattle.rdf_terms.specs.Datatype.{xsd_string}
use Rattle.rdf_terms.specs.Names.{is_name_char}
use Rattle.rdf_terms.specs.Label.{AreInner, IsLabel}
use Rattle.rdf_terms.specs.Tag.{TagForm, IsTag, lower}
use Rattle.rdf_terms.specs.declared.term.LiteralKind.{LiteralKind}
use Rattle.rdf_terms.specs.declared.term.LiteralKind.TheVariants.{Plain, Typed, Tagged}
use Rattle.rdf_terms.specs.declared.term.Term.{Term}
use Rattle.rdf_terms.specs.declared.term.Term.TheVariants as term
use Rattle.nquads_text.specs.Reading.{char_at}
use Rattle.nquads_text.specs.Terms.{name_len}
use Rattle.nquads_text.specs.Grammar.{CharAt, is_blank, HatFollows, IriPiece, StringPiece, Spells, IsIriRef, IsString, IriRef, BlankNode, Suffix, TermAt}
use Rattle.rdf_terms.specs.Line.{escaped, quoted, iri_text, kind_text, term_text}
use Rattle.nquads_text.specs.Printing.{IsKind, IsTermValue, LabelGoesOn, EndsKind, EndsTerm}
use Rattle.nquads_text.proofs.Steps.{cond_false, ok_is}
use Rattle.nquads_text.proofs.Fronts.{char_at-ascii}
use Rattle.nquads_text.proofs.Needed.{char_stands}
use Rattle.nquads_text.proofs.BlankRuns.{blanks_skipped, no_hat_behind}
use Rattle.nquads_text.proofs.LabelLaws.{Inner, inner_taken}
use Rattle.nquads_text.proofs.LabelAgain.{low_inner, label_again}
use Rattle.nquads_text.proofs.LabelReads.{label_found}
use Rattle.nquads_text.proofs.TagReads.{tag_ended}

-- ---- IRIs

abbrev allowed : ℕ → Bool
allowed b = not (is_forbidden b)

not_true : (b : Bool) → not b ≡ true → b ≡ false
not_true true e = absurd cc
not_true false e = refl

high_char : (c : ℕ) → 128 ≤ c → is_forbidden c ≡ false
high_char c le = grind (arith, nat_tests)

char_allowed : (c : ℕ) → list_all allowed (encode_utf8 c) ≡ true → is_forbidden c ≡ false
char_allowed c e =
    elim (cases_lt c 128) [
      | inl low ↦
          let one : list_all allowed (c ∷ []) ≡ true = ap (list_all allowed) (sym (encode_ascii c low)) ∙ e in
          not_true (is_forbidden c) (and_parts (allowed c) true one).0
      | inr le ↦ high_char c le
    ]

iri_spells : (cs : List ℕ) → scalars cs ≡ true → list_all allowed (encode_utf8_all cs) ≡ true → Spells IriPiece (encode_utf8_all cs) cs
iri_spells [] s e = refl
iri_spells (c ∷ cs) s e =
    let t = and_parts (scalar c) (scalars cs) s in
    let p = and_parts (list_all allowed (encode_utf8 c)) (list_all allowed (encode_utf8_all cs)) (sym (list_all-append allowed (encode_utf8 c) (encode_utf8_all cs)) ∙ e) in
    (encode_utf8 c, encode_utf8_all cs, refl, (char_allowed c p.0, inl (t.0, refl)), iri_spells cs t.1 p.1)

iri_printed : (iri : List ℕ) → IsUtf8 iri → IsIri iri → IsIriRef (iri_text iri) iri
iri_printed iri t i =
    let e : iri ≡ encode_utf8_all t.0 = sym t.1.1 in
    let ok : list_all allowed (encode_utf8_all t.0) ≡ true = ap (list_all allowed) t.1.1 ∙ i.allowed in
    (iri, t.0, refl, subst (λ (b : List ℕ). Spells IriPiece b t.0) t.1.1 (iri_spells t.0 t.1.0 ok), e, i.scheme)

iri_ref : (iri rest : List ℕ) → IsUtf8 iri → IsIri iri → IriRef (iri_text iri ++ rest) iri rest
iri_ref iri rest t i = (iri_text iri, iri_printed iri t i, refl)

-- ---- strings

long_byte : (b : ℕ) → 128 ≤ b → escaped b ≡ b ∷ []
long_byte b le = grind (arith, nat_tests)

all_long : (bytes : List ℕ) → ((k : ℕ) → k < length bytes → 128 ≤ get_or bytes k 0) → flat_map escaped bytes ≡ bytes
all_long [] each = refl
all_long (b ∷ bytes) each =
    let first : escaped b ≡ b ∷ [] = long_byte b (each 0 (omega arith)) in
    let others = all_long bytes (λ k lt. each (suc k) (omega arith)) in
    ap (λ (t : List ℕ). t ++ flat_map escaped bytes) first ∙ ap (λ (t : List ℕ). b ∷ t) others

long_bytes : (c : ℕ) (k : ℕ) → 128 ≤ c → k < length (encode_utf8 c) → 128 ≤ get_or (encode_utf8 c) k 0
long_bytes c k le lt =
    elim (cases_lt (get_or (encode_utf8 c) k 0) 128) [
      | inl low ↦ let same = inside_one c [] (encode_utf8 c) k (sym (append-nil (encode_utf8 c))) lt low in absurd (omega (arith, same))
      | inr high ↦ high
    ]

abbrev IsPieceOf : ℕ → List ℕ → Type 0
IsPieceOf c bytes = StringPiece bytes c

low_piece : (c : ℕ) → IsScalar c → encode_utf8 c ≡ c ∷ [] → StringPiece (escaped c ++ []) c
low_piece c s one =
    elim (cases_eq c 34) [
      | inl same ↦ subst (λ (d : ℕ). StringPiece (escaped d ++ []) d) (sym same) (inr (inl (34, refl, refl)))
      | inr a ↦ elim (cases_eq c 92) [
        | inl same ↦ subst (λ (d : ℕ). StringPiece (escaped d ++ []) d) (sym same) (inr (inl (92, refl, refl)))
        | inr b ↦ elim (cases_eq c 10) [
          | inl same ↦ subst (λ (d : ℕ). StringPiece (escaped d ++ []) d) (sym same) (inr (inl (110, refl, refl)))
          | inr n ↦ elim (cases_eq c 13) [
            | inl same ↦ subst (λ (d : ℕ). StringPiece (escaped d ++ []) d) (sym same) (inr (inl (114, refl, refl)))
            | inr r ↦
                let x = ne_eqb c 34 a in let y = ne_eqb c 92 b in let z = ne_eqb c 10 n in let w = ne_eqb c 13 r in
                let plain : escaped c ++ [] ≡ encode_utf8 c = rw (x, y, z, w) (sym one) in
                inl ((s, plain), x, y, rw (z, w) refl)
          ]
        ]
      ]
    ]

char_piece : (c : ℕ) → IsScalar c → StringPiece (flat_map escaped (encode_utf8 c)) c
char_piece c s =
    elim (cases_lt c 128) [
      | inl low ↦ subst (IsPieceOf c) (ap (flat_map escaped) (sym (encode_ascii c low))) (low_piece c s (encode_ascii c low))
      | inr le ↦
          let same = all_long (encode_utf8 c) (λ k lt. long_bytes c k le lt) in
          inl ((s, same), ne_eqb c 34 (λ e. omega (arith, e)), ne_eqb c 92 (λ e. omega (arith, e)), rw (ne_eqb c 10 (λ e. omega (arith, e)), ne_eqb c 13 (λ e. omega (arith, e))) refl)
    ]

string_spells : (cs : List ℕ) → scalars cs ≡ true → Spells StringPiece (flat_map escaped (encode_utf8_all cs)) cs
string_spells [] s = refl
string_spells (c ∷ cs) s =
    let t = and_parts (scalar c) (scalars cs) s in
    (flat_map escaped (encode_utf8 c), flat_map escaped (encode_utf8_all cs), flat_map-append escaped (encode_utf8 c) (encode_utf8_all cs), char_piece c t.0, string_spells cs t.1)

string_printed : (text : List ℕ) → IsUtf8 text → IsString (quoted text) text
string_printed text t = (
  flat_map escaped text,
  t.0,
  refl,
  subst (λ (b : List ℕ). Spells StringPiece (flat_map escaped b) t.0) t.1.1 (string_spells t.0 t.1.0),
  sym t.1.1,
)

-- ---- labels

goes_on : (rest : List ℕ) (c : ℕ) (cs after : List ℕ) → rest ≡ encode_utf8_all (c ∷ cs) ++ after → scalars (c ∷ cs) ≡ true → AreInner (c ∷ cs) → LabelGoesOn rest
goes_on rest c [] after shape s named =
    ([], rest, after, c, refl, refl, ((and_parts (scalar c) true s).0, shape ∙ ap (λ (b : List ℕ). b ++ after) (append-nil (encode_utf8 c))), named)
goes_on rest c (d ∷ cs) after shape s i =
    let t = and_parts (scalar c) (scalars (d ∷ cs)) s in
    let more : List ℕ = encode_utf8_all (d ∷ cs) ++ after in
    let split : rest ≡ encode_utf8 c ++ more = shape ∙ append_assoc (encode_utf8 c) (encode_utf8_all (d ∷ cs)) after in
    ⊎_elim
    (λ dot.
    let one : encode_utf8 c ≡ 46 ∷ [] = ap encode_utf8 (eqb-true c 46 dot) ∙ encode_ascii 46 (omega arith) in
    let g = goes_on more d cs after refl t.1 i.1 in
    (46 ∷ g.0, g.1, g.2, g.3, g.4, split ∙ ap (λ (b : List ℕ). b ++ more) one ∙ ap (λ (b : List ℕ). 46 ∷ b) g.5, g.6, g.7))
    (λ named. ([], rest, more, c, refl, refl, (t.0, split), named))
    (low_inner c i.0)

nothing_more : (rest : List ℕ) → (LabelGoesOn rest → ⊥) → name_len 0 rest ≡ 0
nothing_more rest ends = by i.chars i.after i.parts i.size i.spelled i.inner
  where
    i : Inner rest (name_len 0 rest)
    i = inner_taken 0 rest

    by : (cs after : List ℕ) → rest ≡ encode_utf8_all cs ++ after → name_len 0 rest ≡ length (encode_utf8_all cs) → scalars cs ≡ true → AreInner cs → name_len 0 rest ≡ 0
    by [] after parts size s inner = size
    by (c ∷ cs) after parts size s inner = absurd (ends (goes_on rest c cs after parts s inner))

blank_printed : (label rest : List ℕ) → IsLabel label → (LabelGoesOn rest → ⊥) → BlankNode (95 ∷ 58 ∷ (label ++ rest)) label rest
blank_printed label rest l ends = label_found (58 ∷ (label ++ rest)) label rest (label_again (95 ∷ 58 ∷ (label ++ rest)) label rest l (nothing_more rest ends))

-- ---- literals

tag_parts : (tag : List ℕ) → IsTag tag → TagForm tag × (lower tag ≡ tag)
unfolding IsTag
tag_parts tag is = is

suffix_printed : (kind : LiteralKind) (rest : List ℕ) → IsKind kind → EndsKind kind rest → Suffix (kind_text kind ++ rest) kind rest
suffix_printed Plain rest k ends = Suffix.plain ends.0 ends.1 refl refl
suffix_printed (Typed iri) rest k ends =
    Suffix.typed iri ([], [], iri_text iri ++ rest, refl, refl, refl, iri_ref iri rest k.0 k.1.0) k.1.2 (sym (cond_false (bytes_eq iri xsd_string) Plain (Typed iri) k.1.1))
suffix_printed (Tagged tag) rest k ends = tagged k
  where
    tagged : IsTag tag → Suffix (64 ∷ (tag ++ rest)) (Tagged tag) rest
    tagged is = let t = tag_parts tag is in Suffix.tagged tag (tag_ended tag rest t.0 ends) (ap Tagged (sym t.1))

pub printed : (t : Term) (rest : List ℕ) → IsTermValue t → EndsTerm t rest → TermAt (term_text t ++ rest) t rest
printed (term.Iri iri) rest v ends = iri_ref iri rest v.0 v.1
printed (term.Blank label) rest v ends = blank_printed label rest v ends
printed (term.Literal literal) rest v ends =
    (quoted literal.lexical, kind_text literal.kind ++ rest, string_printed literal.lexical v.0, append_assoc (quoted literal.lexical) (kind_text literal.kind) rest, suffix_printed literal.kind rest v.1 ends)

no_space : is_name_char 32 ≡ false
unfolding is_name_char
no_space = refl

-- ---- a space ends a term, where what follows it is no blank and no hat

space_ends_label : (rest : List ℕ) → LabelGoesOn (32 ∷ rest) → ⊥
space_ends_label rest g = by g.0 g.1 g.2 g.3 g.4 g.5 g.6 g.7
  where
    by : (dots behind after : List ℕ) (c : ℕ) → IsTrue (list_all (λ b. nat_eq b 46) dots) → 32 ∷ rest ≡ dots ++ behind → CharAt behind c after → IsTrue (is_name_char c) → ⊥
    by [] behind after c all shape at named =
        let same = ok_is (32, rest) (c, after) (sym (char_at-ascii 32 rest (omega arith)) ∙ ap char_at shape ∙ char_stands behind c after at) in
        false≢true (sym no_space ∙ ap (λ (x : ℕ × List ℕ). is_name_char x.0) same ∙ named)
    by (b ∷ dots) behind after c all shape at named =
        let first : 32 ≡ b = cc in
        let dot = (and_parts (nat_eq b 46) (list_all (λ d. nat_eq d 46) dots) all).0 in
        false≢true (ap (λ (d : ℕ). nat_eq d 46) first ∙ dot)

space_ends_string : (b : ℕ) (rest : List ℕ) → is_blank b ≡ false → nat_eq b 94 ≡ false → HatFollows (32 ∷ b ∷ rest) → ⊥
space_ends_string b rest no_blank no_hat = no_hat_behind (32 ∷ b ∷ rest) b rest (blanks_skipped (32 ∷ []) (b ∷ rest) refl (λ blank. false≢true (sym no_blank ∙ blank))) no_hat

pub space_ends : (t : Term) (b : ℕ) (rest : List ℕ) → is_blank b ≡ false → nat_eq b 94 ≡ false → EndsTerm t (32 ∷ b ∷ rest)
space_ends (term.Iri iri) b rest no_blank no_hat = tt
space_ends (term.Blank label) b rest no_blank no_hat = space_ends_label (b ∷ rest)
space_ends (term.Literal literal) b rest no_blank no_hat = by literal.kind
  where
    by : (kind : LiteralKind) → EndsKind kind (32 ∷ b ∷ rest)
    by Plain = (λ at. false≢true at, space_ends_string b rest no_blank no_hat)
    by (Typed iri) = tt
    by (Tagged tag) = λ more. false≢true more
