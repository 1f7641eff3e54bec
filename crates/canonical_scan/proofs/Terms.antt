-- Terms in a text, from their parts.
use Rattle.std.proofs.Common.{◌≡◌, ℕ, ◌+◌, ◌<◌, Bool, true, false, not, ◌&&◌, List, ◌∷◌, [], ◌++◌, length, drop, get_or, nat_eq, Option, Some, None, refl, sym, ap, subst, ◌∙◌, arith}
use Rattle.std.specs.List.{slice_range}
use Rattle.std.specs.Option.{IfSome}
use Rattle.std.specs.Str.{bytes_eq}
use Rattle.std.proofs.lemmas.Bool.{and_parts}
use Rattle.rdf_terms.specs.Datatype.{xsd_string, lang_string}
use Rattle.rdf_terms.specs.Label.{IsLabel}
use Rattle.rdf_terms.specs.Line.{quoted, kind_text}
use Rattle.rdf_terms.specs.Tag.{IsTag}
use Rattle.rdf_terms.specs.declared.term.LiteralKind.TheVariants.{Typed, Tagged}
use Rattle.rdf_terms.specs.declared.term.Term.{Term}
use Rattle.rdf_terms.specs.declared.term.Term.TheVariants as term
use Rattle.nquads_text.specs.Printing.{EndsTerm}
use Rattle.nquads_text.proofs.Printed.{space_ends}
use Rattle.canonical_scan.specs.Found.{HasNode, HasIri, HasPlaces}
use Rattle.canonical_scan.specs.Parts.{Between, Stands, InString, IsIriText, Closed, HasString, HasKind, IsSpaced}
use Rattle.canonical_scan.proofs.Places.{at_byte, enclosed, behind_byte, stands_joined, stands_slice}

-- ---- IRIs

pub iri_there : (text : List ℕ) (at close : ℕ) → at < length text → get_or text at 0 ≡ 60 → Closed IsIriText 62 text (at + 1) close → HasIri text at (close + 1)
iri_there text at close lt opens c =
    let s = enclosed 60 62 text at (at + 1) close (close + 1) lt refl c.0.low c.1 refl opens c.2 in
    (term.Iri (slice_range text (at + 1) close), record { value = c.0.form; stands = s.is; ends = tt; further = omega (arith, c.0.low); within = s.high }, refl)

-- ---- literals

pub string_there : (text : List ℕ) (at close : ℕ) → at < length text → get_or text at 0 ≡ 34 → Between InString text (at + 1) close → close < length text → get_or text close 0 ≡ 34
    → HasString text at (close + 1)
string_there text at close lt opens inside within closes =
    let s = enclosed 34 34 text at (at + 1) close (close + 1) lt refl inside.low within refl opens closes in
    (inside.form.0, inside.form.1, subst (λ (t : List ℕ). Stands ((34 ∷ t) ++ (34 ∷ [])) text at (close + 1)) inside.form.2 s, omega (arith, inside.low))

pub language_there : (text : List ℕ) (at : ℕ) (o : Option ℕ) → at < length text → get_or text at 0 ≡ 64 → IfSome o (Between IsTag text (at + 1)) → IfSome o (HasKind text at)
language_there text at None lt opens found = tt
language_there text at (Some end) lt opens found =
    let tag : List ℕ = slice_range text (at + 1) end in
    (Tagged tag, (found.form, behind_byte 64 tag text at (at + 1) end lt refl opens (stands_slice text (at + 1) end found.low found.high)))

other : (b : Bool) → not b ≡ true → b ≡ false
other true e = absurd cc
other false e = refl

pub datatype_there : (text : List ℕ) (at hat less from close : ℕ) → less < length text → hat ≡ at + 1 → less ≡ hat + 1 → from ≡ less + 1 → get_or text at 0 ≡ 94 → get_or text hat 0 ≡ 94
    → get_or text less 0 ≡ 60 → Closed IsIriText 62 text from close → (not (bytes_eq (slice_range text from close) xsd_string) && not (bytes_eq (slice_range text from close) lang_string)) ≡ true
    → HasKind text at (close + 1)
datatype_there text at hat less from close lt a b d first second opens c tests =
    let iri : List ℕ = slice_range text from close in
    let t = and_parts (not (bytes_eq iri xsd_string)) (not (bytes_eq iri lang_string)) tests in
    let s = enclosed 60 62 text less from close (close + 1) lt d c.0.low c.1 refl opens c.2 in
    let whole : List ℕ = (60 ∷ iri) ++ (62 ∷ []) in (
      Typed iri,
      (
        (c.0.form.0, (c.0.form.1, other _ t.0, other _ t.1)),
        behind_byte 94 (94 ∷ whole) text at hat (close + 1) (omega arith) a first (behind_byte 94 whole text hat less (close + 1) (omega arith) b second s),
      ),
    )

-- ---- what ends a term

pub spaced_there : (text : List ℕ) (at next behind : ℕ) → next < length text → next ≡ at + 1 → behind ≡ next + 1 → get_or text at 0 ≡ 32 → nat_eq (get_or text next 0) 32 ≡ false
    → nat_eq (get_or text next 0) 9 ≡ false → nat_eq (get_or text next 0) 94 ≡ false → IsSpaced text at
spaced_there text at next behind lt a b space no_space no_tab no_hat = (
  get_or text next 0,
  drop behind text,
  at_byte 32 text at next (omega arith) a space ∙ ap (λ (t : List ℕ). 32 ∷ t) (at_byte (get_or text next 0) text next behind lt b refl),
  rw (no_space, no_tab) refl,
  no_hat,
)

ends_there : (t : Term) (text : List ℕ) (end : ℕ) → IsSpaced text end → EndsTerm t (drop end text)
ends_there t text end s = subst (EndsTerm t) (sym s.2) (space_ends t s.0 s.1 s.3 s.4)

pub literal_there : (text : List ℕ) (at string end : ℕ) → HasString text at string → HasKind text string end → IsSpaced text end → HasPlaces text at (record { string = Some string; end = end })
literal_there text at string end s k spaced =
    let t : Term = term.Literal (record { lexical = s.0; kind = k.0 }) in
    let whole = stands_joined (quoted s.0) (kind_text k.0) text at string end s.2 k.1.1 in (
      (t, record { value = (s.1, k.1.0); stands = whole.is; ends = ends_there t text end spaced; further = omega (arith, s.3, k.1.1.low); within = whole.high }),
      (s, k),
    )

-- ---- blank nodes

pub blank_there : (text : List ℕ) (at colon from end : ℕ) → colon < length text → colon ≡ at + 1 → from ≡ colon + 1 → get_or text at 0 ≡ 95 → get_or text colon 0 ≡ 58
    → Between IsLabel text from end → IsSpaced text end → HasNode text at end
blank_there text at colon from end lt a b first second l spaced =
    let label : List ℕ = slice_range text from end in
    let s = behind_byte 95 (58 ∷ label) text at colon end (omega arith) a first (behind_byte 58 label text colon from end lt b second (stands_slice text from end l.low l.high)) in
    (term.Blank label, record { value = l.form; stands = s.is; ends = ends_there (term.Blank label) text end spaced; further = omega (arith, l.low); within = l.high }, refl)
