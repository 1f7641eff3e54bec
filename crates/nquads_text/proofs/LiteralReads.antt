-- A literal is read exactly where the grammar has one, and its fault is met exactly where the table has one.
use Rattle.std.proofs.Common.{◌≡◌, ℕ, Bool, true, false, cond, List, [], ◌∷◌, ◌++◌, Ok, Err, nat_eq, refl, sym, ap, subst, ◌∙◌, ◌⊎◌, inl, inr, ⊎_elim, arith, append_assoc}
use Rattle.std.specs.List.{list_all}
use Rattle.std.specs.Str.{bytes_eq}
use Rattle.std.proofs.lemmas.Bool.{eqb-true, and_parts, false≢true}
use Rattle.std.proofs.lemmas.Bool.Decides.{nat_tests}
use Rattle.std.proofs.lemmas.Slice.Eq.{bytes_eq-Decides}
use Rattle.rdf_terms.specs.Datatype.{xsd_string, lang_string}
use Rattle.rdf_terms.specs.declared.term.LiteralKind.{LiteralKind}
use Rattle.rdf_terms.specs.declared.term.LiteralKind.TheVariants.{Plain, Typed, Tagged}
use Rattle.rdf_terms.specs.declared.term.Literal.{Literal}
use Rattle.nquads_text.specs.declared.fault.TextKind.TheVariants.{LangStringWithoutTag, BadToken}
use Rattle.nquads_text.specs.Fault.{TextFault, TextRead, ◌>>=◌}
use Rattle.nquads_text.specs.Reading.{char_at, string_piece, string_body_at}
use Rattle.nquads_text.specs.Terms.{iri_at, iri_needed, skip_blanks, kind_given, datatype_at, typed_at, suffix_at, literal_at, tag_at}
use Rattle.nquads_text.specs.Grammar.{AreBlanks, StartsWith, is_blank, StringPiece, IsString, IriRef, DatatypeAt, HatFollows, kind_with, Suffix, LangTag, LiteralAt}
use Rattle.nquads_text.specs.Faults.{Lacks, IriFault, StringFault, TagFault, DatatypeFault, LiteralFault}
use Rattle.nquads_text.proofs.Fronts.{char_at-ascii}
use Rattle.nquads_text.proofs.Steps.{bind_ok, bind_err, chosen, ok_is, not_ok, not_both, err_is, cond_true, cond_false}
use Rattle.nquads_text.proofs.Inside.{low_char}
use Rattle.nquads_text.proofs.InString.{reads_string}
use Rattle.nquads_text.proofs.Spelled.{body_taken, body_again}
use Rattle.nquads_text.proofs.PieceFaults.{string_body_fault, string_body_stops}
use Rattle.nquads_text.proofs.IriLaws.{iri_read, iri_is_read, iri_fault_met, iri_fault_is_met}
use Rattle.nquads_text.proofs.TagReads.{tag_is_longest, tag_is_read, tag_fault, tag_lacks}
use Rattle.nquads_text.proofs.BlankRuns.{blanks_parted, blanks_skipped, hat_behind, no_hat_behind, no_hat_at_end, nothing_behind}
use Rattle.nquads_text.proofs.Needed.{needed_fault, needed_lacks}

-- ---- an IRIREF, where nothing else may stand

pub iri_found : (text iri after : List ℕ) → iri_needed text ≡ Ok (iri, after) → IriRef text iri after
unfolding iri_needed
iri_found text iri after e =
    let p = bind_ok (char_at text) (λ (c : ℕ × List ℕ). cond (nat_eq c.0 60) (iri_at text c.1) (Err (BadToken, text))) (iri, after) e in
    ⊎_elim
    (λ yes.
    let shape : text ≡ 60 ∷ p.0.1 = low_char text p.0 60 p.1 (eqb-true p.0.0 60 yes.0) (omega arith) in
    let r = iri_read p.0.1 iri after (ap iri_needed (sym shape) ∙ e) in
    (r.0, r.1, shape ∙ r.2))
    (λ other. absurd (not_ok (iri, after) (BadToken, text) other.1))
    (chosen (nat_eq p.0.0 60) (iri_at text p.0.1) (Err (BadToken, text)) (Ok (iri, after)) p.2)

pub iri_again : (text iri after : List ℕ) → IriRef text iri after → iri_needed text ≡ Ok (iri, after)
iri_again text iri after r = ap iri_needed r.2 ∙ iri_is_read r.0 iri after r.1

pub iri_needed_fault : (text : List ℕ) (f : TextFault) → iri_needed text ≡ Err f → Lacks (λ c. nat_eq c 60) text (BadToken, text) f ⊎ IriFault text f
unfolding iri_needed
iri_needed_fault text f e =
    ⊎_elim
    (λ lacks. inl lacks)
    (λ there.
    let c : ℕ × List ℕ = there.0 in
    let shape : text ≡ 60 ∷ c.1 = low_char text c 60 there.1 (eqb-true c.0 60 there.2) (omega arith) in
    inr (subst (λ (t : List ℕ). IriFault t f) (sym shape) (iri_fault_met c.1 f (ap iri_needed (sym shape) ∙ e))))
    (needed_fault (λ (c : ℕ). nat_eq c 60) text (BadToken, text) f (λ (c : ℕ × List ℕ). iri_at text c.1) e)

iri_needed_lacks : (text : List ℕ) (f : TextFault) → Lacks (λ c. nat_eq c 60) text (BadToken, text) f → iri_needed text ≡ Err f
unfolding iri_needed
iri_needed_lacks text f l = needed_lacks (λ (c : ℕ). nat_eq c 60) text (BadToken, text) f (λ (c : ℕ × List ℕ). iri_at text c.1) l

-- ---- a datatype, from behind its first hat on

kind_found : (start iri end : List ℕ) (kind : LiteralKind) (after : List ℕ) → kind_given start iri end ≡ Ok (kind, after) → (bytes_eq iri lang_string ≡ false) × (kind ≡ kind_with iri) × (end ≡ after)
unfolding kind_given
kind_found start iri end kind after e =
    ⊎_elim
    (λ bad. absurd (not_ok (kind, after) (LangStringWithoutTag, start) bad.1))
    (λ fine.
    ⊎_elim
    (λ plain.
    let same = ok_is (Plain, end) (kind, after) plain.1 in
    (fine.0, ap (λ (x : LiteralKind × List ℕ). x.0) (sym same) ∙ sym (cond_true (bytes_eq iri xsd_string) Plain (Typed iri) plain.0), ap (λ (x : LiteralKind × List ℕ). x.1) same))
    (λ typed.
    let same = ok_is (Typed iri, end) (kind, after) typed.1 in
    (fine.0, ap (λ (x : LiteralKind × List ℕ). x.0) (sym same) ∙ sym (cond_false (bytes_eq iri xsd_string) Plain (Typed iri) typed.0), ap (λ (x : LiteralKind × List ℕ). x.1) same))
    (chosen (bytes_eq iri xsd_string) (Ok (Plain, end)) (Ok (Typed iri, end)) (Ok (kind, after)) fine.1))
    (chosen (bytes_eq iri lang_string) (Err (LangStringWithoutTag, start)) (cond (bytes_eq iri xsd_string) (Ok (Plain, end)) (Ok (Typed iri, end))) (Ok (kind, after)) e)

abbrev kind_read : LiteralKind → List ℕ → TextRead LiteralKind
kind_read kind after = Ok (kind, after)

kind_is : (start iri after : List ℕ) → bytes_eq iri lang_string ≡ false → kind_given start iri after ≡ Ok (kind_with iri, after)
unfolding kind_given
kind_is start iri after no_lang = rw no_lang (by (bytes_eq iri xsd_string))
  where
    by : (plain : Bool) → cond plain (kind_read Plain after) (kind_read (Typed iri) after) ≡ kind_read (cond plain Plain (Typed iri)) after
    by true = refl
    by false = refl

-- the second hat, blanks and an IRIREF
abbrev HatIri : List ℕ → List ℕ → List ℕ → Type 0
HatIri rest iri after = (between behind : List ℕ) × AreBlanks between × (rest ≡ 94 ∷ (between ++ behind)) × IriRef behind iri after

datatype_found : (start rest : List ℕ) (kind : LiteralKind) (after : List ℕ) → datatype_at start rest ≡ Ok (kind, after)
    → (iri : List ℕ) × HatIri rest iri after × (bytes_eq iri lang_string ≡ false) × (kind ≡ kind_with iri)
unfolding datatype_at
datatype_found start rest kind after e =
    let p = bind_ok (char_at rest) (λ (hat : ℕ × List ℕ). cond (nat_eq hat.0 94) (iri_needed (skip_blanks hat.1) >>= λ (iri : List ℕ × List ℕ). kind_given start iri.0 iri.1) (Err (BadToken, rest))) (kind, after) e in
    let hat = p.0 in
    ⊎_elim
    (λ yes.
    let q = bind_ok (iri_needed (skip_blanks hat.1)) (λ (iri : List ℕ × List ℕ). kind_given start iri.0 iri.1) (kind, after) yes.1 in
    let k = kind_found start q.0.0 q.0.1 kind after q.2 in
    let b = blanks_parted hat.1 in
    let shape : rest ≡ 94 ∷ (b.0 ++ skip_blanks hat.1) = low_char rest hat 94 p.1 (eqb-true hat.0 94 yes.0) (omega arith) ∙ ap (λ (t : List ℕ). 94 ∷ t) b.1 in
    let read : iri_needed (skip_blanks hat.1) ≡ Ok (q.0.0, after) = q.1 ∙ ap (λ (t : List ℕ). Ok (q.0.0, t)) k.2 in
    (q.0.0, (b.0, skip_blanks hat.1, b.2, shape, iri_found (skip_blanks hat.1) q.0.0 after read), k.0, k.1))
    (λ other. absurd (not_ok (kind, after) (BadToken, rest) other.1))
    (chosen (nat_eq hat.0 94) (iri_needed (skip_blanks hat.1) >>= λ (iri : List ℕ × List ℕ). kind_given start iri.0 iri.1) (Err (BadToken, rest)) (Ok (kind, after)) p.2)

-- an IRIREF begins with no blank
iri_no_blank : (behind iri after : List ℕ) → IriRef behind iri after → StartsWith is_blank behind → ⊥
iri_no_blank behind iri after r =
    let front : behind ≡ 60 ∷ ((r.1.0 ++ 62 ∷ []) ++ after) = r.2 ∙ ap (λ (t : List ℕ). t ++ after) r.1.2 in
    rw front (λ e. false≢true e)

datatype_iri : (start rest iri after : List ℕ) → HatIri rest iri after → datatype_at start rest ≡ kind_given start iri after
unfolding datatype_at
datatype_iri start rest iri after h =
    let skipped : skip_blanks (h.0 ++ h.1) ≡ h.1 = blanks_skipped h.0 h.1 h.2 (iri_no_blank h.1 iri after h.4) in
    rw (ap char_at h.3 ∙ char_at-ascii 94 (h.0 ++ h.1) (omega arith), skipped, iri_again h.1 iri after h.4) refl

-- ---- what follows the closing quote

blank_no_at : (b : ℕ) → is_blank b ≡ true → nat_eq b 64 ≡ false
blank_no_at b e = grind (arith, nat_tests)

no_at_before_hat : (text blanks rest : List ℕ) → AreBlanks blanks → text ≡ blanks ++ 94 ∷ rest → (start : List ℕ) → suffix_at start text ≡ typed_at start text (94 ∷ rest)
unfolding suffix_at
no_at_before_hat text [] rest all shape start = rw shape (ap (typed_at start (94 ∷ rest)) (hat_behind (94 ∷ rest) [] rest refl refl))
no_at_before_hat text (b ∷ blanks) rest all shape start =
    let no_at : nat_eq b 64 ≡ false = blank_no_at b (and_parts (is_blank b) (list_all is_blank blanks) all).0 in
    rw (shape, no_at) (ap (typed_at start (b ∷ (blanks ++ 94 ∷ rest))) (hat_behind (b ∷ (blanks ++ 94 ∷ rest)) (b ∷ blanks) rest all refl))

hat_suffix : (start text blanks rest : List ℕ) → AreBlanks blanks → text ≡ blanks ++ 94 ∷ rest → suffix_at start text ≡ datatype_at start rest
unfolding typed_at
hat_suffix start text blanks rest all shape = no_at_before_hat text blanks rest all shape start

at_suffix : (start rest : List ℕ) → suffix_at start (64 ∷ rest) ≡ (tag_at true false (64 ∷ rest) rest >>= λ (tag : List ℕ × List ℕ). Ok (Tagged tag.0, tag.1))
unfolding suffix_at
at_suffix start rest = refl

-- which way the text goes on
data Goes (start text : List ℕ) : Type 0 where
  to_tag : (rest : List ℕ) → text ≡ 64 ∷ rest → Goes start text
  to_datatype : (blanks rest : List ℕ) → AreBlanks blanks → text ≡ blanks ++ 94 ∷ rest → Goes start text
  no_further : (StartsWith (λ b. nat_eq b 64) text → ⊥) → (HatFollows text → ⊥) → suffix_at start text ≡ Ok (Plain, text) → Goes start text

goes_by : (start text more : List ℕ) → (StartsWith (λ b. nat_eq b 64) text → ⊥) → suffix_at start text ≡ typed_at start text more → skip_blanks text ≡ more → Goes start text
unfolding typed_at
goes_by start text [] no_at read skipped = Goes.no_further no_at (no_hat_at_end text skipped) read
goes_by start text (b ∷ more) no_at read skipped = by (nat_eq b 94) refl read
  where
    by : (hat : Bool) → nat_eq b 94 ≡ hat → suffix_at start text ≡ cond hat (datatype_at start more) (kind_read Plain text) → Goes start text
    by true e read =
        let parted = blanks_parted text in
        let is : b ≡ 94 = eqb-true b 94 e in
        Goes.to_datatype parted.0 more parted.2 (parted.1 ∙ ap (λ (t : List ℕ). parted.0 ++ t) (skipped ∙ ap (λ (c : ℕ). c ∷ more) is))
    by false e read = Goes.no_further no_at (no_hat_behind text b more skipped e) read

goes : (start text : List ℕ) → Goes start text
unfolding suffix_at
goes start [] = Goes.no_further (λ none. none) (no_hat_at_end [] nothing_behind) refl
goes start (b ∷ rest) = by (nat_eq b 64) refl
  where
    by : (at : Bool) → nat_eq b 64 ≡ at → Goes start (b ∷ rest)
    by true e = Goes.to_tag rest (ap (λ (c : ℕ). c ∷ rest) (eqb-true b 64 e))
    by false e = goes_by start (b ∷ rest) (skip_blanks (b ∷ rest)) (λ at. false≢true (sym e ∙ at)) (rw e refl) refl

suffix_found : (start text : List ℕ) (kind : LiteralKind) (after : List ℕ) → suffix_at start text ≡ Ok (kind, after) → Suffix text kind after
suffix_found start text kind after e = by (goes start text)
  where
    by : Goes start text → Suffix text kind after
    by (Goes.to_tag rest shape) =
        let p = bind_ok (tag_at true false (64 ∷ rest) rest) (λ (tag : List ℕ × List ℕ). Ok (Tagged tag.0, tag.1)) (kind, after) (sym (at_suffix start rest) ∙ ap (suffix_at start) (sym shape) ∙ e) in
        let same = ok_is (Tagged p.0.0, p.0.1) (kind, after) p.2 in
        let t = tag_is_longest (64 ∷ rest) rest p.0.0 p.0.1 p.1 in
        let whole : LangTag text t.0 after = subst (λ (s : List ℕ). LangTag s t.0 after) (sym shape) (subst (λ (s : List ℕ). LangTag (64 ∷ rest) t.0 s) (ap (λ (x : LiteralKind × List ℕ). x.1) same) t.1) in
        Suffix.tagged t.0 whole (ap (λ (x : LiteralKind × List ℕ). x.0) (sym same) ∙ ap Tagged t.2)
    by (Goes.to_datatype blanks rest all shape) =
        let d = datatype_found start rest kind after (sym (hat_suffix start text blanks rest all shape) ∙ e) in
        let h = d.1 in
        Suffix.typed d.0 (blanks, h.0, h.1, all, h.2, shape ∙ ap (λ (t : List ℕ). blanks ++ 94 ∷ t) h.3, h.4) d.2 d.3
    by (Goes.no_further no_at no_hat read) =
        let same = ok_is (Plain, text) (kind, after) (sym read ∙ e) in
        Suffix.plain no_at no_hat (ap (λ (x : LiteralKind × List ℕ). x.0) (sym same)) (ap (λ (x : LiteralKind × List ℕ). x.1) (sym same))

suffix_again : (start text : List ℕ) (kind : LiteralKind) (after : List ℕ) → Suffix text kind after → suffix_at start text ≡ Ok (kind, after)
suffix_again start text kind after (Suffix.plain no_at no_hat is same) = by (goes start text)
  where
    by : Goes start text → suffix_at start text ≡ Ok (kind, after)
    by (Goes.to_tag rest shape) = absurd (no_at (rw shape refl))
    by (Goes.to_datatype blanks rest all shape) = absurd (no_hat (blanks, rest, all, shape))
    by (Goes.no_further _ _ read) = read ∙ ap (λ (k : LiteralKind). Ok (k, text)) (sym is) ∙ ap (λ (t : List ℕ). Ok (kind, t)) (sym same)
suffix_again start text kind after (Suffix.typed iri d no_lang is) =
    hat_suffix start text d.0 (94 ∷ (d.1 ++ d.2)) d.3 d.5
    ∙ datatype_iri start (94 ∷ (d.1 ++ d.2)) iri after (d.1, d.2, d.4, refl, d.6)
    ∙ kind_is start iri after no_lang
    ∙ ap (λ (k : LiteralKind). Ok (k, after)) (sym is)
suffix_again start text kind after (Suffix.tagged tag t is) =
    ap (suffix_at start) t.1 ∙ at_suffix start t.0
    ∙ ap (λ (r : TextRead (List ℕ)). r >>= λ (tag : List ℕ × List ℕ). Ok (Tagged tag.0, tag.1)) (tag_is_read (64 ∷ t.0) t.0 tag after t.2 t.3)
    ∙ ap (λ (k : LiteralKind). Ok (k, after)) (sym is)

-- ---- its faults

-- of what follows the quote: of a tag, of a datatype, or that it is rdf:langString
data SuffixFault (start text : List ℕ) (f : TextFault) : Type 0 where
  in_tag : TagFault text f → SuffixFault start text f
  in_datatype : DatatypeFault text f → SuffixFault start text f
  no_tag : (after : List ℕ) → DatatypeAt text lang_string after → f ≡ (LangStringWithoutTag, start) → SuffixFault start text f

kind_fault : (start iri after : List ℕ) (f : TextFault) → kind_given start iri after ≡ Err f → (iri ≡ lang_string) × (f ≡ (LangStringWithoutTag, start))
unfolding kind_given
kind_fault start iri after f e =
    ⊎_elim
    (λ bad. ((bytes_eq-Decides iri lang_string).0 bad.0, sym (err_is (LangStringWithoutTag, start) f bad.1)))
    (λ fine. absurd (by (bytes_eq iri xsd_string) fine.1))
    (chosen (bytes_eq iri lang_string) (Err (LangStringWithoutTag, start)) (cond (bytes_eq iri xsd_string) (Ok (Plain, after)) (Ok (Typed iri, after))) (Err f) e)
  where
    by : (plain : Bool) → cond plain (kind_read Plain after) (kind_read (Typed iri) after) ≡ Err f → ⊥
    by true e = not_both (Plain, after) f e
    by false e = not_both (Typed iri, after) f e

kind_lacks : (start after : List ℕ) → kind_given start lang_string after ≡ Err (LangStringWithoutTag, start)
unfolding kind_given
kind_lacks start after = refl

datatype_fault : (start text blanks rest : List ℕ) (f : TextFault) → AreBlanks blanks → text ≡ blanks ++ 94 ∷ rest → datatype_at start rest ≡ Err f → SuffixFault start text f
unfolding datatype_at
datatype_fault start text blanks rest f all shape e =
    ⊎_elim
    (λ lacks. SuffixFault.in_datatype (DatatypeFault.hat blanks rest all shape lacks))
    (λ there.
    let c : ℕ × List ℕ = there.0 in
    let parted = blanks_parted c.1 in
    let hats : rest ≡ 94 ∷ (parted.0 ++ skip_blanks c.1) = low_char rest c 94 there.1 (eqb-true c.0 94 there.2) (omega arith) ∙ ap (λ (t : List ℕ). 94 ∷ t) parted.1 in
    let whole : text ≡ blanks ++ 94 ∷ 94 ∷ (parted.0 ++ skip_blanks c.1) = shape ∙ ap (λ (t : List ℕ). blanks ++ 94 ∷ t) hats in
    ⊎_elim
    (λ bad. ⊎_elim
    (λ lacks. SuffixFault.in_datatype (DatatypeFault.less blanks parted.0 (skip_blanks c.1) all parted.2 whole parted.3 lacks))
    (λ inside. SuffixFault.in_datatype (DatatypeFault.iri blanks parted.0 (skip_blanks c.1) all parted.2 whole inside))
    (iri_needed_fault (skip_blanks c.1) f bad))
    (λ read.
    let x : List ℕ × List ℕ = read.0 in
    let k = kind_fault start x.0 x.1 f read.2 in
    let is : IriRef (skip_blanks c.1) lang_string x.1 = subst (λ (i : List ℕ). IriRef (skip_blanks c.1) i x.1) k.0 (iri_found (skip_blanks c.1) x.0 x.1 read.1) in
    SuffixFault.no_tag x.1 (blanks, parted.0, skip_blanks c.1, all, parted.2, whole, is) k.1)
    (bind_err (iri_needed (skip_blanks c.1)) (λ (iri : List ℕ × List ℕ). kind_given start iri.0 iri.1) f there.3))
    (needed_fault (λ (c : ℕ). nat_eq c 94) rest (BadToken, rest) f (λ (hat : ℕ × List ℕ). iri_needed (skip_blanks hat.1) >>= λ (iri : List ℕ × List ℕ). kind_given start iri.0 iri.1) e)

hat_lacks : (start rest : List ℕ) (f : TextFault) → Lacks (λ c. nat_eq c 94) rest (BadToken, rest) f → datatype_at start rest ≡ Err f
unfolding datatype_at
hat_lacks start rest f l = needed_lacks (λ (c : ℕ). nat_eq c 94) rest (BadToken, rest) f (λ (hat : ℕ × List ℕ). iri_needed (skip_blanks hat.1) >>= λ (iri : List ℕ × List ℕ). kind_given start iri.0 iri.1) l

-- behind both hats
hats_lack : (start between rest : List ℕ) (f : TextFault) → AreBlanks between → (StartsWith is_blank rest → ⊥) → iri_needed rest ≡ Err f → datatype_at start (94 ∷ (between ++ rest)) ≡ Err f
unfolding datatype_at
hats_lack start between rest f all none e = rw (char_at-ascii 94 (between ++ rest) (omega arith), blanks_skipped between rest all none, e) refl

inside_no_blank : (text : List ℕ) (f : TextFault) → IriFault text f → StartsWith is_blank text → ⊥
inside_no_blank text f (IriFault.inside s) = rw s.3 (λ e. false≢true e)
inside_no_blank text f (IriFault.relative body cs after shape spelled none is) = rw shape (λ e. false≢true e)

datatype_lacks : (start text : List ℕ) (f : TextFault) → DatatypeFault text f → suffix_at start text ≡ Err f
datatype_lacks start text f (DatatypeFault.hat blanks rest all shape l) = hat_suffix start text blanks rest all shape ∙ hat_lacks start rest f l
datatype_lacks start text f (DatatypeFault.less blanks between rest all more shape none l) =
    hat_suffix start text blanks (94 ∷ (between ++ rest)) all shape ∙ hats_lack start between rest f more none (iri_needed_lacks rest f l)
datatype_lacks start text f (DatatypeFault.iri blanks between rest all more shape i) =
    hat_suffix start text blanks (94 ∷ (between ++ rest)) all shape ∙ hats_lack start between rest f more (inside_no_blank rest f i) (iri_fault_is_met rest f i)

no_suffix : (kind : LiteralKind) (after : List ℕ) (f : TextFault) → kind_read kind after ≡ Err f → ⊥
no_suffix kind after f e = not_both (kind, after) f e

suffix_fault : (start text : List ℕ) (f : TextFault) → suffix_at start text ≡ Err f → SuffixFault start text f
suffix_fault start text f e = by (goes start text)
  where
    by : Goes start text → SuffixFault start text f
    by (Goes.to_tag rest shape) =
        ⊎_elim
        (λ bad. SuffixFault.in_tag (subst (λ (t : List ℕ). TagFault t f) (sym shape) (tag_fault rest f bad)))
        (λ fine. absurd (no_suffix (Tagged fine.0.0) fine.0.1 f fine.2))
        (bind_err (tag_at true false (64 ∷ rest) rest) (λ (tag : List ℕ × List ℕ). kind_read (Tagged tag.0) tag.1) f (sym (at_suffix start rest) ∙ ap (suffix_at start) (sym shape) ∙ e))
    by (Goes.to_datatype blanks rest all shape) = datatype_fault start text blanks rest f all shape (sym (hat_suffix start text blanks rest all shape) ∙ e)
    by (Goes.no_further no_at no_hat read) = absurd (no_suffix Plain text f (sym read ∙ e))

tag_opens : (text : List ℕ) (f : TextFault) → TagFault text f → (rest : List ℕ) × (text ≡ 64 ∷ rest)
tag_opens text f (TagFault.first rest shape l) = (rest, shape)
tag_opens text f (TagFault.part tag rest shape form l) = (tag ++ 45 ∷ rest, shape)

suffix_lacks : (start text : List ℕ) (f : TextFault) → SuffixFault start text f → suffix_at start text ≡ Err f
suffix_lacks start text f (SuffixFault.in_tag t) =
    let o = tag_opens text f t in
    ap (suffix_at start) o.1 ∙ at_suffix start o.0
    ∙ ap (λ (r : TextRead (List ℕ)). r >>= λ (tag : List ℕ × List ℕ). kind_read (Tagged tag.0) tag.1) (tag_lacks o.0 f (subst (λ (s : List ℕ). TagFault s f) o.1 t))
suffix_lacks start text f (SuffixFault.in_datatype d) = datatype_lacks start text f d
suffix_lacks start text f (SuffixFault.no_tag after d is) =
    hat_suffix start text d.0 (94 ∷ (d.1 ++ d.2)) d.3 d.5
    ∙ datatype_iri start (94 ∷ (d.1 ++ d.2)) lang_string after (d.1, d.2, d.4, refl, d.6)
    ∙ kind_lacks start after
    ∙ ap (λ (g : TextFault). Err g) (sym is)

-- ---- the literal

pub string_found : (rest lexical behind : List ℕ) → string_body_at rest ≡ Ok (lexical, behind) → (bytes : List ℕ) × IsString bytes lexical × (34 ∷ rest ≡ bytes ++ behind)
string_found rest lexical behind e =
    let b = body_taken string_piece StringPiece 34 reads_string 0 rest (lexical, behind) e in
    ((34 ∷ b.body) ++ 34 ∷ [], (b.body, b.chars, refl, b.spelled, b.value), ap (λ (t : List ℕ). 34 ∷ t) (b.parts ∙ sym (append_assoc b.body (34 ∷ []) behind)))

-- a text that begins with a string begins with a quote, behind which the string is read
string_again : (text bytes lexical behind : List ℕ) → IsString bytes lexical → text ≡ bytes ++ behind → (rest : List ℕ) × (text ≡ 34 ∷ rest) × (string_body_at rest ≡ Ok (lexical, behind))
string_again text bytes lexical behind s shape = (
  s.0 ++ 34 ∷ behind,
  shape ∙ ap (λ (t : List ℕ). t ++ behind) s.2 ∙ ap (λ (t : List ℕ). 34 ∷ t) (append_assoc s.0 (34 ∷ []) behind),
  body_again string_piece StringPiece 34 reads_string s.0 s.1 behind s.3 ∙ ap (λ (t : List ℕ). Ok (t, behind)) (sym s.4),
)

pub string_is_read : (rest lexical behind bytes : List ℕ) → IsString bytes lexical → 34 ∷ rest ≡ bytes ++ behind → string_body_at rest ≡ Ok (lexical, behind)
string_is_read rest lexical behind bytes s shape =
    let r = string_again (34 ∷ rest) bytes lexical behind s shape in
    let opened = r.1 in
    let same : rest ≡ r.0 = cc in
    ap string_body_at same ∙ r.2

pub string_fault_is_met : (rest : List ℕ) (f : TextFault) → StringFault (34 ∷ rest) f → string_body_at rest ≡ Err f
string_fault_is_met rest f s =
    let opened = s.3 in
    let same : rest ≡ s.0 ++ s.2 = cc in
    ap string_body_at same ∙ string_body_stops s.0 s.1 s.2 f s.4 s.5

abbrev literal_of : List ℕ → LiteralKind × List ℕ → TextRead Literal
literal_of lexical kind = Ok (record { lexical = lexical; kind = kind.0 }, kind.1)

pub literal_found : (rest : List ℕ) (literal : Literal) (after : List ℕ) → literal_at (34 ∷ rest) rest ≡ Ok (literal, after) → LiteralAt (34 ∷ rest) literal after
unfolding literal_at
literal_found rest literal after e =
    let p = bind_ok (string_body_at rest) (λ (text : List ℕ × List ℕ). suffix_at (34 ∷ rest) text.1 >>= literal_of text.0) (literal, after) e in
    let text = p.0 in
    let q = bind_ok (suffix_at (34 ∷ rest) text.1) (literal_of text.0) (literal, after) p.2 in
    let kind = q.0 in
    let made : Literal = record { lexical = text.0; kind = kind.0 } in
    let same : (made, kind.1) ≡ (literal, after) = ok_is (made, kind.1) (literal, after) q.2 in
    let s = string_found rest text.0 text.1 p.1 in
    let suffix = suffix_found (34 ∷ rest) text.1 kind.0 kind.1 q.1 in
    subst (λ (v : Literal × List ℕ). LiteralAt (34 ∷ rest) v.0 v.1) same (s.0, text.1, s.1, s.2, suffix)

pub literal_again : (text : List ℕ) (literal : Literal) (after : List ℕ) → LiteralAt text literal after → (rest : List ℕ) × (text ≡ 34 ∷ rest) × (literal_at (34 ∷ rest) rest ≡ Ok (literal, after))
unfolding literal_at
literal_again text literal after l =
    let s = string_again text l.0 literal.lexical l.1 l.2 l.3 in
    (s.0, s.1, rw (s.2, suffix_again (34 ∷ s.0) l.1 literal.kind after l.4) refl)

pub literal_fault : (rest : List ℕ) (f : TextFault) → literal_at (34 ∷ rest) rest ≡ Err f → LiteralFault (34 ∷ rest) f
unfolding literal_at
literal_fault rest f e =
    ⊎_elim
    (λ inside. LiteralFault.string (string_body_fault rest f inside))
    (λ read.
    let text : List ℕ × List ℕ = read.0 in
    let s = string_found rest text.0 text.1 read.1 in
    ⊎_elim
    (λ bad. whole s.0 text.0 text.1 s.1 s.2 (suffix_fault (34 ∷ rest) text.1 f bad))
    (λ fine. absurd (not_both (record { lexical = text.0; kind = fine.0.0 }, fine.0.1) f fine.2))
    (bind_err (suffix_at (34 ∷ rest) text.1) (literal_of text.0) f read.2))
    (bind_err (string_body_at rest) (λ (text : List ℕ × List ℕ). suffix_at (34 ∷ rest) text.1 >>= literal_of text.0) f e)
  where
    whole : (bytes lexical behind : List ℕ) → IsString bytes lexical → 34 ∷ rest ≡ bytes ++ behind → SuffixFault (34 ∷ rest) behind f → LiteralFault (34 ∷ rest) f
    whole bytes lexical behind is shape (SuffixFault.in_tag t) = LiteralFault.tag bytes lexical behind is shape t
    whole bytes lexical behind is shape (SuffixFault.in_datatype d) = LiteralFault.datatype bytes lexical behind is shape d
    whole bytes lexical behind is shape (SuffixFault.no_tag after d e) = LiteralFault.without_tag bytes lexical behind after is shape d e

suffix_bad : (text bytes lexical behind : List ℕ) (f : TextFault) → IsString bytes lexical → text ≡ bytes ++ behind → SuffixFault text behind f → (rest : List ℕ) × (text ≡ 34 ∷ rest) × (literal_at (34 ∷ rest) rest ≡ Err f)
unfolding literal_at
suffix_bad text bytes lexical behind f is shape s =
    let r = string_again text bytes lexical behind is shape in
    let bad : suffix_at (34 ∷ r.0) behind ≡ Err f = ap (λ (t : List ℕ). suffix_at t behind) (sym r.1) ∙ suffix_lacks text behind f s in
    (r.0, r.1, rw (r.2, bad) refl)

pub literal_lacks : (text : List ℕ) (f : TextFault) → LiteralFault text f → (rest : List ℕ) × (text ≡ 34 ∷ rest) × (literal_at (34 ∷ rest) rest ≡ Err f)
unfolding literal_at
literal_lacks text f (LiteralFault.string s) = (s.0 ++ s.2, s.3, rw (string_body_stops s.0 s.1 s.2 f s.4 s.5) refl)
literal_lacks text f (LiteralFault.tag bytes lexical behind is shape t) = suffix_bad text bytes lexical behind f is shape (SuffixFault.in_tag t)
literal_lacks text f (LiteralFault.datatype bytes lexical behind is shape d) = suffix_bad text bytes lexical behind f is shape (SuffixFault.in_datatype d)
literal_lacks text f (LiteralFault.without_tag bytes lexical behind after is shape d e) = suffix_bad text bytes lexical behind f is shape (SuffixFault.no_tag after d e)
