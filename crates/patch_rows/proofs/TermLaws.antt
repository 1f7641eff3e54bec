-- A term of a row is read exactly where the grammar has one, and its first fault is the one that is named.
use Rattle.std.proofs.Common.{◌≡◌, ℕ, ◌≤◌, Bool, true, false, ◌&&◌, List, [], ◌∷◌, ◌++◌, length, drop, nat_eq, Ok, Err, refl, sym, ap, subst, ◌∙◌, ◌⊎◌, inl, inr, ⊎_elim, arith}
use Rattle.std.proofs.lemmas.List.{length-append, append-nil}
use Rattle.std.proofs.lemmas.Bool.{and_parts, false≢true, eqb-true, ne_eqb}
use Rattle.rdf_terms.specs.declared.term.Term.{Term}
use Rattle.rdf_terms.specs.declared.term.Term.TheVariants as term
use Rattle.rdf_terms.specs.Iri.{has_scheme}
use Rattle.rdf_terms.specs.Label.{IsLabel}
use Rattle.nquads_text.specs.declared.fault.TextKind.TheVariants.{BadLabel, RelativeIri, BadToken}
use Rattle.nquads_text.specs.Fault.{TextFault, TextRead, ◌>>=◌ as ◌>>◌}
use Rattle.nquads_text.specs.Grammar.{StartsWith, Longest, BlankNode, IriPiece, TermAt}
use Rattle.nquads_text.specs.Faults.{AnyTermFault}
use Rattle.nquads_text.specs.Reading.{iri_piece, iri_body_at}
use Rattle.nquads_text.specs.Terms.{label_at, iri_at, term_at}
use Rattle.nquads_text.proofs.Fronts.{char_at-ascii}
use Rattle.nquads_text.proofs.InString.{reads_iri}
use Rattle.nquads_text.proofs.LabelReads.{label_found, blank_is_read}
use Rattle.nquads_text.proofs.Spelled.{body_taken, body_again}
use Rattle.nquads_text.proofs.Steps.{ok_is as text_ok_is, not_both as text_not_both}
use Rattle.nquads_text.proofs.TermReads.{term_found, term_is_read, term_fault, term_fault_is_met}
use Rattle.patch_rows.specs.declared.fault.RowKind.TheVariants.{Common, WrongCount}
use Rattle.patch_rows.specs.Fault.{Fault, in_row, as_row_fault}
use Rattle.patch_rows.specs.Grammar.{InBrackets, RowTerm}
use Rattle.patch_rows.specs.Faults.{is_dot, RowTermFault, DotFault}
use Rattle.patch_rows.specs.Reading.{stands, begins_blank, whole_label, bracketed, bracket_at, row_term_at, needed_term_at}
use Rattle.patch_rows.proofs.Exact.{Exact, exact_in_row, exact_as, exact_of, exact_ok, exact_err, exact_if, err_no_ok, Either, EitherFault}

-- ---- labels in brackets

abbrev LabelRead : List ℕ → TextRead (List ℕ)
LabelRead x = label_at (95 ∷ 58 ∷ x) (58 ∷ x)

-- a label alone is the longest one of its text
alone : (x : List ℕ) → IsLabel x → BlankNode (95 ∷ 58 ∷ x) x []
alone x l = (x, refl, (l, sym (append-nil x), λ longer rest s shape. let e : length x ≡ length (longer ++ rest) = ap length shape in omega (arith, e, length-append longer rest)))

label_is_read : (x : List ℕ) → IsLabel x → LabelRead x ≡ Ok (x, [])
label_is_read x l = blank_is_read (58 ∷ x) x [] (alone x l)

-- either it is a label, and read whole, or it is none
abbrev LabelWays : List ℕ → List ℕ → List ℕ → Type 0
LabelWays start after x = (IsLabel x × (whole_label start after (LabelRead x) ≡ Ok (term.Blank x, after)))
    ⊎ ((IsLabel x → ⊥) × (whole_label start after (LabelRead x) ≡ Err (Common BadLabel, start)))

label_ways : (start after x : List ℕ) → LabelWays start after x
label_ways start after x = by (LabelRead x) refl
  where
    read_some : (label left : List ℕ) → LabelRead x ≡ Ok (label, left) → Longest IsLabel x label left
    read_some label left e =
        let b = label_found (58 ∷ x) label left e in
        let shape = b.1 in
        let same : b.0 ≡ x = cc in
        subst (λ (t : List ℕ). Longest IsLabel t label left) same b.2

    whole : (label left : List ℕ) → LabelRead x ≡ Ok (label, left) → Longest IsLabel x label left → LabelWays start after x
    whole label [] e l =
        let same : x ≡ label = l.1 ∙ append-nil label in
        inl (subst IsLabel (sym same) l.0, rw e (ap (λ (t : List ℕ). Ok (term.Blank t, after)) (sym same)))
    whole label (b ∷ left) e l =
        inr (
          λ is. let le : length x ≤ length label = l.2 x [] is (sym (append-nil x)) in let parts : length x ≡ length (label ++ b ∷ left) = ap length l.1 in omega (arith, le, parts, length-append label (b ∷ left)),
          let some : nat_eq (length (b ∷ left)) 0 ≡ false = ne_eqb (length (b ∷ left)) 0 (λ none. omega (arith, none)) in rw e (rw some refl),
        )

    by : (r : TextRead (List ℕ)) → LabelRead x ≡ r → LabelWays start after x
    by (Ok v) e = whole v.0 v.1 e (read_some v.0 v.1 e)
    by (Err f) e = inr (λ is. text_not_both (x, []) f (sym (label_is_read x is) ∙ e), rw e refl)

-- ---- what a `<` leads to

-- as in N-Triples, and nothing in brackets begins with `_:`
abbrev PlainWay : List ℕ → Type 0
PlainWay text = (row_term_at text ≡ in_row (term_at text)) × ((x after : List ℕ) → InBrackets text x after → ⊥)

-- a blank node's label in brackets, or no label
abbrev BlankWay : List ℕ → Type 0
BlankWay text = (x after : List ℕ) × InBrackets text x after × (row_term_at text ≡ whole_label text after (LabelRead x)) × (term_at text ≡ Err (RelativeIri, text))

brackets_read : (rest x after : List ℕ) → InBrackets (60 ∷ rest) x after → iri_body_at rest ≡ Ok (95 ∷ 58 ∷ x, after)
brackets_read rest x after i =
    let shape = i.2 in
    let behind : rest ≡ i.0 ++ 62 ∷ after = cc in
    ap iri_body_at behind ∙ body_again iri_piece IriPiece 62 reads_iri i.0 i.1 after i.3 ∙ ap (λ (t : List ℕ). Ok (t, after)) i.4

at_iri : (rest : List ℕ) → term_at (60 ∷ rest) ≡ (iri_at (60 ∷ rest) rest >> λ (iri : List ℕ × List ℕ). Ok (term.Iri iri.0, iri.1))
unfolding term_at
at_iri rest = rw (char_at-ascii 60 rest (omega arith)) refl

stopped : (rest : List ℕ) (g : TextFault) → iri_body_at rest ≡ Err g → row_term_at (60 ∷ rest) ≡ in_row (term_at (60 ∷ rest))
unfolding row_term_at bracket_at iri_at
stopped rest g e = rw (at_iri rest, e) refl

no_blank : (rest bytes after : List ℕ) (scheme : Bool) → iri_body_at rest ≡ Ok (bytes, after) → begins_blank bytes ≡ false → has_scheme bytes ≡ scheme
    → row_term_at (60 ∷ rest) ≡ in_row (term_at (60 ∷ rest))
unfolding row_term_at bracket_at bracketed iri_at
no_blank rest bytes after true e plain scheme = rw (at_iri rest, e, plain, scheme) refl
no_blank rest bytes after false e plain scheme = rw (at_iri rest, e, plain, scheme) refl

blank_read : (rest x after : List ℕ) → iri_body_at rest ≡ Ok (95 ∷ 58 ∷ x, after) → row_term_at (60 ∷ rest) ≡ whole_label (60 ∷ rest) after (LabelRead x)
unfolding row_term_at bracket_at bracketed
blank_read rest x after e = rw e refl

no_scheme : (rest x after : List ℕ) → iri_body_at rest ≡ Ok (95 ∷ 58 ∷ x, after) → term_at (60 ∷ rest) ≡ Err (RelativeIri, 60 ∷ rest)
unfolding iri_at has_scheme
no_scheme rest x after e = rw (at_iri rest, e) refl

blank_in_brackets : (rest x after : List ℕ) → iri_body_at rest ≡ Ok (95 ∷ 58 ∷ x, after) → InBrackets (60 ∷ rest) x after
blank_in_brackets rest x after e =
    let b = body_taken iri_piece IriPiece 62 reads_iri 0 rest (95 ∷ 58 ∷ x, after) e in
    (b.body, b.chars, ap (λ (t : List ℕ). 60 ∷ t) b.parts, b.spelled, sym b.value)

begins_with : (bytes : List ℕ) → (begins_blank bytes ≡ false) ⊎ ((x : List ℕ) × (bytes ≡ 95 ∷ 58 ∷ x))
begins_with [] = inl refl
begins_with (a ∷ []) = inl refl
begins_with (a ∷ b ∷ x) = by (nat_eq a 95 && nat_eq b 58) refl
  where
    by : (t : Bool) → (nat_eq a 95 && nat_eq b 58) ≡ t → (begins_blank (a ∷ b ∷ x) ≡ false) ⊎ ((y : List ℕ) × (a ∷ b ∷ x ≡ 95 ∷ 58 ∷ y))
    by true e =
        let p = and_parts (nat_eq a 95) (nat_eq b 58) e in
        inr (x, ap (λ (c : ℕ). c ∷ b ∷ x) (eqb-true a 95 p.0) ∙ ap (λ (c : ℕ). 95 ∷ c ∷ x) (eqb-true b 58 p.1))
    by false e = inl e

open_ways : (rest : List ℕ) → PlainWay (60 ∷ rest) ⊎ BlankWay (60 ∷ rest)
open_ways rest = by (iri_body_at rest) refl
  where
    body_read : (bytes after : List ℕ) → iri_body_at rest ≡ Ok (bytes, after) → PlainWay (60 ∷ rest) ⊎ BlankWay (60 ∷ rest)
    body_read bytes after e =
        ⊎_elim
        (λ plain.
        inl (
          no_blank rest bytes after (has_scheme bytes) e plain refl,
          λ x end i.
              let same = text_ok_is (bytes, after) (95 ∷ 58 ∷ x, end) (sym e ∙ brackets_read rest x end i) in
              false≢true (sym plain ∙ ap (λ (v : List ℕ × List ℕ). begins_blank v.0) same),
        ))
        (λ blank.
        let x : List ℕ = blank.0 in
        let read : iri_body_at rest ≡ Ok (95 ∷ 58 ∷ x, after) = e ∙ ap (λ (t : List ℕ). Ok (t, after)) blank.1 in
        inr (x, after, blank_in_brackets rest x after read, blank_read rest x after read, no_scheme rest x after read))
        (begins_with bytes)

    by : (r : TextRead (List ℕ)) → iri_body_at rest ≡ r → PlainWay (60 ∷ rest) ⊎ BlankWay (60 ∷ rest)
    by (Ok v) e = body_read v.0 v.1 e
    by (Err g) e = inl (stopped rest g e, λ x after i. text_not_both (95 ∷ 58 ∷ x, after) g (sym (brackets_read rest x after i) ∙ e))

ways : (text : List ℕ) → PlainWay text ⊎ BlankWay text
unfolding row_term_at
ways [] = inl (refl, λ x after i. let shape = i.2 in absurd cc)
ways (b ∷ rest) = by (nat_eq b 60) refl
  where
    by : (t : Bool) → nat_eq b 60 ≡ t → PlainWay (b ∷ rest) ⊎ BlankWay (b ∷ rest)
    by true e = subst (λ (c : ℕ). PlainWay (c ∷ rest) ⊎ BlankWay (c ∷ rest)) (sym (eqb-true b 60 e)) (open_ways rest)
    by false e =
        inl (
          rw e refl,
          λ x after i.
              let shape = i.2 in
              let first : b ≡ 60 = cc in
              false≢true (sym e ∙ ap (λ (c : ℕ). nat_eq c 60) first),
        )

-- ---- terms of rows

abbrev pub TermRead : List ℕ → Type 0
TermRead text = Exact (row_term_at text) (λ x. RowTerm text x.0 x.1) (λ f. RowTermFault text f)

exact_plain : (text : List ℕ) → PlainWay text → TermRead text
exact_plain text way =
    exact_of (row_term_at text) (in_row (term_at text)) (λ x. RowTerm text x.0 x.1) (λ f. RowTermFault text f) way.0
    (exact_as (in_row (term_at text)) (λ x. TermAt text x.0 x.1) (λ x. RowTerm text x.0 x.1) (λ f. (g : TextFault) × AnyTermFault text g × (f ≡ as_row_fault g)) (λ f. RowTermFault text f)
    (exact_in_row (term_at text) (λ x. TermAt text x.0 x.1) (λ g. AnyTermFault text g)
    (λ x e. term_found text x.0 x.1 e) (λ x t. term_is_read text x.0 x.1 t) (λ g e. term_fault text g e) (λ g t. term_fault_is_met text g t))
    (λ x t. inl t)
    (λ x t. ⊎_elim (λ plain. plain) (λ blank. absurd (way.1 blank.0 x.1 blank.1)) t)
    (λ f t. RowTermFault.term t.0 t.1 way.1 t.2)
    (λ f t. plain_fault f t))
  where
    plain_fault : (f : Fault) → RowTermFault text f → (g : TextFault) × AnyTermFault text g × (f ≡ as_row_fault g)
    plain_fault f (RowTermFault.term g t none is) = (g, t, is)
    plain_fault f (RowTermFault.label x after i none is) = absurd (way.1 x after i)

one_in_brackets : (text x after y end : List ℕ) → InBrackets text x after → InBrackets text y end → (x ≡ y) × (after ≡ end)
one_in_brackets text x after y end i j =
    let rest : List ℕ = i.0 ++ 62 ∷ after in
    let same = text_ok_is (95 ∷ 58 ∷ x, after) (95 ∷ 58 ∷ y, end)
    (sym (brackets_read rest x after (subst (λ (t : List ℕ). InBrackets t x after) i.2 i)) ∙ brackets_read rest y end (subst (λ (t : List ℕ). InBrackets t y end) i.2 j)) in
    (ap (λ (v : List ℕ × List ℕ). drop 2 v.0) same, ap (λ (v : List ℕ × List ℕ). v.1) same)

abbrev ended : Term → List ℕ → Term × List ℕ
ended t after = (t, after)

module _ (text : List ℕ) (way : BlankWay text) where
  abbrev inner : List ℕ
  inner = way.0

  abbrev behind : List ℕ
  behind = way.1

  no_term : (t : Term) (after : List ℕ) → TermAt text t after → ⊥
  no_term t after is = text_not_both (t, after) (RelativeIri, text) (sym (term_is_read text t after is) ∙ way.4)

  -- the term of a row there is this blank node alone
  blank_there : (t : Term) (after : List ℕ) → RowTerm text t after → IsLabel inner × (ended t after ≡ ended (term.Blank inner) behind)
  blank_there t after (inl plain) = absurd (no_term t after plain)
  blank_there t after (inr b) =
      let same = one_in_brackets text b.0 after inner behind b.1 way.2 in
      let value : t ≡ term.Blank inner = b.3 ∙ ap (λ (l : List ℕ). term.Blank l) same.0 in
      (subst IsLabel same.0 b.2, ap (λ (u : Term). ended u after) value ∙ ap (λ (s : List ℕ). ended (term.Blank inner) s) same.1)

  -- and its fault is that there is no label
  label_there : (f : Fault) → RowTermFault text f → (IsLabel inner → ⊥) × (f ≡ (Common BadLabel, text))
  label_there f (RowTermFault.term g t none is) = absurd (none inner behind way.2)
  label_there f (RowTermFault.label x after i none is) =
      let same = one_in_brackets text inner behind x after way.2 i in (λ l. none (subst IsLabel same.0 l), is)

  exact_label : IsLabel inner → whole_label text behind (LabelRead inner) ≡ Ok (term.Blank inner, behind) → TermRead text
  exact_label is read =
      exact_of (row_term_at text) (Ok (term.Blank inner, behind)) (λ x. RowTerm text x.0 x.1) (λ f. RowTermFault text f) (way.3 ∙ read)
      (exact_as (Ok (term.Blank inner, behind)) (λ x. x ≡ ended (term.Blank inner) behind) (λ x. RowTerm text x.0 x.1) (λ f. ⊥) (λ f. RowTermFault text f) (exact_ok (term.Blank inner, behind))
      (λ x e. subst (λ (v : Term × List ℕ). RowTerm text v.0 v.1) (sym e) (inr (inner, way.2, is, refl)))
      (λ x t. (blank_there x.0 x.1 t).1)
      (λ f none. absurd none)
      (λ f t. (label_there f t).0 is))

  exact_no_label : (IsLabel inner → ⊥) → whole_label text behind (LabelRead inner) ≡ Err (Common BadLabel, text) → TermRead text
  exact_no_label none read =
      exact_of (row_term_at text) (Err (Common BadLabel, text)) (λ x. RowTerm text x.0 x.1) (λ f. RowTermFault text f) (way.3 ∙ read)
      (exact_as (Err (Common BadLabel, text)) (λ x. ⊥) (λ x. RowTerm text x.0 x.1) (λ f. f ≡ (Common BadLabel, text)) (λ f. RowTermFault text f) (exact_err (Term × List ℕ) (Common BadLabel, text))
      (λ x bad. absurd bad)
      (λ x t. none (blank_there x.0 x.1 t).0)
      (λ f is. RowTermFault.label inner behind way.2 none is)
      (λ f t. (label_there f t).1))

  exact_blank : TermRead text
  exact_blank = ⊎_elim (λ label. exact_label label.0 label.1) (λ none. exact_no_label none.0 none.1) (label_ways text behind inner)

pub exact_term : (text : List ℕ) → TermRead text
exact_term text = ⊎_elim (λ plain. exact_plain text plain) (λ blank. exact_blank text blank) (ways text)

-- ---- no term begins with a dot

dot_read : (rest : List ℕ) → row_term_at (46 ∷ rest) ≡ Err (Common BadToken, 46 ∷ rest)
unfolding row_term_at term_at
dot_read rest = rw (char_at-ascii 46 rest (omega arith)) refl

pub no_term_at_dot : (text : List ℕ) → stands is_dot text ≡ true → row_term_at text ≡ Err (Common BadToken, text)
no_term_at_dot [] e = absurd (false≢true e)
no_term_at_dot (b ∷ rest) e = subst (λ (c : ℕ). row_term_at (c ∷ rest) ≡ Err (Common BadToken, c ∷ rest)) (sym (eqb-true b 46 e)) (dot_read rest)

pub term_is_no_dot : (text : List ℕ) (t : Term) (after : List ℕ) → RowTerm text t after → stands is_dot text ≡ true → ⊥
term_is_no_dot text t after is dot = err_no_ok (t, after) (Common BadToken, text) (sym (no_term_at_dot text dot) ∙ (exact_term text).again (t, after) is)

-- ---- the first byte

pub starts : (test : ℕ → Bool) (text : List ℕ) → stands test text ≡ true → StartsWith test text
starts test [] e = false≢true e
starts test (b ∷ rest) e = e

pub started : (test : ℕ → Bool) (text : List ℕ) → StartsWith test text → stands test text ≡ true
started test [] e = absurd e
started test (b ∷ rest) e = e

-- ---- a term that is needed

abbrev pub NeededRead : List ℕ → Type 0
NeededRead text = Exact (needed_term_at text) (λ x. RowTerm text x.0 x.1) (λ f. DotFault text f ⊎ ((StartsWith is_dot text → ⊥) × RowTermFault text f))

pub exact_needed : (text : List ℕ) → NeededRead text
unfolding needed_term_at
exact_needed text =
    exact_as (needed_term_at text)
    (Either (Err (WrongCount, text)) (row_term_at text) (λ x. ⊥) (λ x. RowTerm text x.0 x.1) (λ f. f ≡ (WrongCount, text)) (λ f. RowTermFault text f) (stands is_dot text))
    (λ x. RowTerm text x.0 x.1)
    (EitherFault (Err (WrongCount, text)) (row_term_at text) (λ x. ⊥) (λ x. RowTerm text x.0 x.1) (λ f. f ≡ (WrongCount, text)) (λ f. RowTermFault text f) (stands is_dot text))
    (λ f. DotFault text f ⊎ ((StartsWith is_dot text → ⊥) × RowTermFault text f))
    (exact_if (Err (WrongCount, text)) (row_term_at text) (λ x. ⊥) (λ x. RowTerm text x.0 x.1) (λ f. f ≡ (WrongCount, text)) (λ f. RowTermFault text f) (stands is_dot text)
    (λ dot. exact_err (Term × List ℕ) (WrongCount, text)) (λ other. exact_term text))
    (λ x t. ⊎_elim (λ a. absurd a.1) (λ b. b.1) t)
    (λ x t. inr (not_dot (stands is_dot text) refl (λ dot. term_is_no_dot text x.0 x.1 t dot), t))
    (λ f t. ⊎_elim (λ a. inl (starts is_dot text a.0, a.1)) (λ b. inr (λ s. false≢true (sym b.0 ∙ started is_dot text s), b.1)) t)
    (λ f t. ⊎_elim (λ a. inl (started is_dot text a.0, a.1)) (λ b. inr (not_dot (stands is_dot text) refl (λ dot. b.0 (starts is_dot text dot)), b.1)) t)
  where
    not_dot : (b : Bool) → stands is_dot text ≡ b → (stands is_dot text ≡ true → ⊥) → stands is_dot text ≡ false
    not_dot true e none = absurd (none e)
    not_dot false e none = e
