-- Terms from their text.
use Rattle.std.proofs.Common.{◌≡◌, ℕ, ◌+◌, ◌-◌, ◌<◌, ◌≤◌, Bool, true, false, not, ◌==◌, List, ◌∷◌, [], ◌++◌, length, get_or, nat_eq, Option, Some, None, IsUtf8, refl, sym, ap, subst, ◌∙◌, arith}
use Rattle.std.specs.List.{list_all, slice_range, flat_map, IsAnyAnswer}
use Rattle.std.proofs.lemmas.Bool.{and_parts}
use Rattle.std.proofs.lemmas.Bool.Decides.{nat_tests}
use Rattle.std.proofs.lemmas.List.Folds.{list_all-append}
use Rattle.std.proofs.lemmas.List.Sums.{list_all-from_AllPass}
use Rattle.std.proofs.lemmas.Str.{IsUtf8-drop, IsUtf8-nil, IsCharBoundary-after_ascii}
use Rattle.rdf_terms.specs.Label.{IsLabel}
use Rattle.rdf_terms.specs.Tag.{IsTag}
use Rattle.rdf_terms.specs.Line.{escaped, quoted, term_text, kind_text}
use Rattle.rdf_terms.specs.Quad.{is_literal}
use Rattle.rdf_terms.specs.declared.term.LiteralKind.{LiteralKind}
use Rattle.rdf_terms.specs.declared.term.LiteralKind.TheVariants.{Plain, Typed, Tagged}
use Rattle.rdf_terms.specs.declared.term.Term.{Term}
use Rattle.rdf_terms.specs.declared.term.Term.TheVariants as term
use Rattle.nquads_text.proofs.Utf8Terms.{term_utf8}
use Rattle.canonical_scan.specs.Parts.{Stands, HasKind, IsKindText, HasString, HasNodeText, IsTermText, IsNodeText, HasGraph, IsGraphText, HasNoEscape}
use Rattle.canonical_scan.proofs.Places.{stands_size, stands_split, stands_first, stands_inside, stands_joined, slice_stands}

-- ---- UTF-8

behind_ascii : (b : ℕ) (rest : List ℕ) → b < 128 → IsUtf8 (b ∷ rest) → IsUtf8 rest
behind_ascii b rest low u = IsUtf8-drop (b ∷ rest) 1 u (IsCharBoundary-after_ascii (b ∷ rest) 0 u (omega arith) low)

pub label_utf8 : (label : List ℕ) → IsLabel label → IsUtf8 label
label_utf8 label is = behind_ascii 58 label (omega arith) (behind_ascii 95 (58 ∷ label) (omega arith) (term_utf8 (term.Blank label) is))

pub tag_utf8 : (tag : List ℕ) → IsTag tag → IsUtf8 tag
tag_utf8 tag is =
    let whole : IsUtf8 (34 ∷ 34 ∷ 64 ∷ tag) = term_utf8 (term.Literal (record { lexical = []; kind = Tagged tag })) (IsUtf8-nil, is) in
    behind_ascii 64 tag (omega arith) (behind_ascii 34 (64 ∷ tag) (omega arith) (behind_ascii 34 (34 ∷ 64 ∷ tag) (omega arith) whole))

-- ---- what stands where

-- bytes between two places
pub record AreBetween (text : List ℕ) (at end : ℕ) (bytes : List ℕ) : Type 0 where
  pub low : at ≤ end
  pub high : end ≤ length text
  pub is : slice_range text at end ≡ bytes

between : (bytes text : List ℕ) (at end : ℕ) → Stands bytes text at end → AreBetween text at end bytes
between bytes text at end s = record { low = s.low; high = s.high; is = slice_stands bytes text at end s }

pub iri_inside : (text : List ℕ) (at end : ℕ) (iri : List ℕ) → IsTermText text at end (term.Iri iri) → AreBetween text (at + 1) (end - 1) iri
iri_inside text at end iri is =
    between iri text (at + 1) (end - 1) (stands_inside 60 62 iri text at end is.1)

pub label_inside : (text : List ℕ) (at end : ℕ) (label : List ℕ) → IsTermText text at end (term.Blank label) → AreBetween text (at + 2) end label
label_inside text at end label is = between label text (at + 2) end (stands_split (95 ∷ 58 ∷ []) label text at (at + 2) end is.1 refl).1

pub tag_inside : (text : List ℕ) (at end : ℕ) (tag : List ℕ) → IsKindText text at end (Tagged tag) → AreBetween text (at + 1) end tag
tag_inside text at end tag is = between tag text (at + 1) end (stands_split (64 ∷ []) tag text at (at + 1) end is.1 refl).1

pub datatype_inside : (text : List ℕ) (at end : ℕ) (iri : List ℕ) → IsKindText text at end (Typed iri) → AreBetween text (at + 3) (end - 1) iri
datatype_inside text at end iri is =
    let s = stands_inside 60 62 iri text (at + 2) end (stands_split (94 ∷ 94 ∷ []) ((60 ∷ iri) ++ (62 ∷ [])) text at (at + 2) end is.1 refl).1 in
    let place : at + 2 + 1 ≡ at + 3 = omega arith in
    between iri text (at + 3) (end - 1) (subst (λ (k : ℕ). Stands iri text k (end - 1)) place s)

-- ---- kinds

kind_typed : (text : List ℕ) (at end : ℕ) (kind : LiteralKind) → IsKindText text at end kind → (at ≡ end → ⊥) → get_or text at 0 ≡ 94 → (iri : List ℕ) × IsKindText text at end (Typed iri)
kind_typed text at end Plain is some hat = absurd (some (omega (arith, stands_size [] text at end is.1)))
kind_typed text at end (Typed iri) is some hat = (iri, is)
kind_typed text at end (Tagged tag) is some hat = let first = (stands_first 64 tag text at end is.1).0 in absurd (omega (arith, first, hat))

pub typed_there : (text : List ℕ) (at end : ℕ) → HasKind text at end → (at ≡ end → ⊥) → get_or text at 0 ≡ 94 → (iri : List ℕ) × IsKindText text at end (Typed iri)
typed_there text at end k some hat = kind_typed text at end k.0 k.1 some hat

kind_tagged : (text : List ℕ) (at end : ℕ) (kind : LiteralKind) → IsKindText text at end kind → (at ≡ end → ⊥) → (get_or text at 0 ≡ 94 → ⊥) → (tag : List ℕ) × IsKindText text at end (Tagged tag)
kind_tagged text at end Plain is some other = absurd (some (omega (arith, stands_size [] text at end is.1)))
kind_tagged text at end (Typed iri) is some other = absurd (other (stands_first 94 (94 ∷ ((60 ∷ iri) ++ (62 ∷ []))) text at end is.1).0)
kind_tagged text at end (Tagged tag) is some other = (tag, is)

pub tagged_there : (text : List ℕ) (at end : ℕ) → HasKind text at end → (at ≡ end → ⊥) → (get_or text at 0 ≡ 94 → ⊥) → (tag : List ℕ) × IsKindText text at end (Tagged tag)
tagged_there text at end k some other = kind_tagged text at end k.0 k.1 some other

-- ---- strings

itself : (b : ℕ) → list_all (λ x. not (x == 92)) (escaped b) ≡ true → escaped b ≡ b ∷ []
itself b all = grind (arith, nat_tests)

-- what is written without an escape is written as itself
unescaped : (lexical : List ℕ) → list_all (λ x. not (x == 92)) (flat_map escaped lexical) ≡ true → flat_map escaped lexical ≡ lexical
unescaped [] all = refl
unescaped (b ∷ lexical) all =
    let test : ℕ → Bool = λ x. not (x == 92) in
    let t = and_parts (list_all test (escaped b)) (list_all test (flat_map escaped lexical)) (sym (list_all-append test (escaped b) (flat_map escaped lexical)) ∙ all) in
    ap (λ (r : List ℕ). r ++ flat_map escaped lexical) (itself b t.0) ∙ ap (λ (r : List ℕ). b ∷ r) (unescaped lexical t.1)

pub no_backslash : (bytes : List ℕ) (found : Bool) → IsAnyAnswer (λ y b. nat_eq y 92 ≡ b) bytes found → found ≡ false → list_all (λ x. not (x == 92)) bytes ≡ true
no_backslash bytes true any none = absurd cc
no_backslash bytes false each none = list_all-from_AllPass (λ x. not (x == 92)) bytes (λ k d low. ap not (each k d (omega arith) low))

pub string_inside : (text : List ℕ) (at end : ℕ) (s : HasString text at end) → AreBetween text (at + 1) (end - 1) (flat_map escaped s.0)
string_inside text at end s =
    between (flat_map escaped s.0) text (at + 1) (end - 1) (stands_inside 34 34 (flat_map escaped s.0) text at end s.2)

pub string_itself : (text : List ℕ) (at end : ℕ) (s : HasString text at end) → HasNoEscape text at (Some end) → slice_range text (at + 1) (end - 1) ≡ s.0
string_itself text at end s plain =
    let is = (string_inside text at end s).is in is ∙ unescaped s.0 (ap (list_all (λ x. not (x == 92))) (sym is) ∙ plain)

pub literal_made : (text : List ℕ) (at string end : ℕ) (s : HasString text at string) (lexical : List ℕ) (kind : LiteralKind) → lexical ≡ s.0 → IsKindText text string end kind
    → IsTermText text at end (term.Literal (record { lexical = lexical; kind = kind }))
literal_made text at string end s lexical kind e k =
    subst (λ (l : List ℕ). IsTermText text at end (term.Literal (record { lexical = l; kind = kind }))) (sym e) ((s.1, k.0), stands_joined (quoted s.0) (kind_text kind) text at string end s.2 k.1)

-- ---- graphs

node_behind : (text : List ℕ) (at end : ℕ) (graph : Option Term) → IsGraphText text at end graph → (at ≡ end → ⊥) → HasNodeText text (at + 1) end
node_behind text at end None is some = absurd (some (omega (arith, stands_size [] text at end is.2)))
node_behind text at end (Some t) is some = (t, ((is.0, (stands_split (32 ∷ []) (term_text t) text at (at + 1) end is.2 refl).1), no_literal t is.1))
  where
    other : (b : Bool) → not b ≡ true → b ≡ false
    other true e = absurd cc
    other false e = refl

    no_literal : (t : Term) → not (is_literal t) ≡ true → is_literal t ≡ false
    no_literal t e = other (is_literal t) e

pub name_there : (text : List ℕ) (at end : ℕ) → HasGraph text at end → (at ≡ end → ⊥) → HasNodeText text (at + 1) end
name_there text at end g some = node_behind text at end g.0 g.1 some

space_before : (text : List ℕ) (at end : ℕ) (graph : Option Term) → IsGraphText text at end graph → (at ≡ end → ⊥) → Stands (32 ∷ []) text at (at + 1)
space_before text at end None is some = absurd (some (omega (arith, stands_size [] text at end is.2)))
space_before text at end (Some t) is some = (stands_split (32 ∷ []) (term_text t) text at (at + 1) end is.2 refl).0

pub graph_made : (text : List ℕ) (at end : ℕ) → HasGraph text at end → (at ≡ end → ⊥) → (t : Term) → IsNodeText text (at + 1) end t → IsGraphText text at end (Some t)
graph_made text at end g some t node =
    (node.0.0, ap not node.1, stands_joined (32 ∷ []) (term_text t) text at (at + 1) end (space_before text at end g.0 g.1 some) node.0.1)
