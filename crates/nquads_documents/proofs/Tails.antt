-- What stands behind the end of a line changes nothing of the statement on it: the grammar has it with that tail exactly where it has it without.
use Rattle.std.proofs.Common.{◌≡◌, ℕ, ◌<◌, ◌≤◌, Bool, true, false, not, ◌||◌, List, [], ◌∷◌, ◌++◌, length, Option, Some, None, nat_eq, refl, sym, ap, subst, ◌∙◌, inl, inr, arith, append_assoc}
use Rattle.std.specs.List.{list_all, flat_map}
use Rattle.std.specs.Str.{encode_utf8_all}
use Rattle.std.specs.Char.{encode_utf8, is_ascii_alphabetic, is_ascii_alphanumeric}
use Rattle.std.proofs.lemmas.Bool.{and_parts, false≢true, eqb-true, cases_lt}
use Rattle.std.proofs.lemmas.List.Folds.{list_all-append}
use Rattle.rdf_terms.specs.declared.term.LiteralKind.{LiteralKind}
use Rattle.rdf_terms.specs.declared.term.Literal.{Literal}
use Rattle.rdf_terms.specs.declared.term.Term.{Term}
use Rattle.rdf_terms.specs.declared.term.Term.TheVariants as term
use Rattle.rdf_terms.specs.Label.{is_inner, AreInner, LabelChars, IsLabel}
use Rattle.rdf_terms.specs.Names.{is_name_char, is_name_start, begins_name}
use Rattle.rdf_terms.specs.Quad.{Statement}
use Rattle.rdf_terms.specs.Tag.{TagForm, AreWords}
use Rattle.nquads_text.specs.Terms.{skip_blanks}
use Rattle.nquads_text.specs.Grammar.{is_blank, StartsWith, Longest, Blanks, IriRef, BlankNode, HatFollows, Suffix, LiteralAt, TermAt, is_line_end}
use Rattle.nquads_text.proofs.BlankRuns.{hat_behind}
use Rattle.nquads_documents.specs.Grammar.{GraphAndDotAt, StatementAt}
use Rattle.nquads_documents.proofs.BlankLaws.{blanks_found, blanks_again, starts_more}
use Rattle.nquads_documents.proofs.LineEnds.{Closes, no_end, char_ends_none}

-- ---- without the tail

pub record Cut (X : List ℕ → Type 0) (text tail : List ℕ) : Type 0 where
  pub short : List ℕ
  pub parts : text ≡ short ++ tail
  pub is : X short

starts_shorter : (test : ℕ → Bool) (text more : List ℕ) → StartsWith test text → StartsWith test (text ++ more)
starts_shorter = starts_more

pub cut_blanks : (text after tail : List ℕ) → Blanks text (after ++ tail) → Cut (λ t. Blanks t after) text tail
cut_blanks text after tail b = record {
  short = b.0 ++ after;
  parts = b.1 ∙ sym (append_assoc b.0 after tail);
  is = (b.0, refl, b.2, λ s. b.3 (starts_more is_blank after tail s));
}

cut_iri : (text iri after tail : List ℕ) → IriRef text iri (after ++ tail) → Cut (λ t. IriRef t iri after) text tail
cut_iri text iri after tail r = record { short = r.0 ++ after; parts = r.2 ∙ sym (append_assoc r.0 after tail); is = (r.0, r.1, refl) }

-- the longest text of a form before the tail is the longest without it
cut_longest : (Form : List ℕ → Type 0) (behind taken after tail : List ℕ) → Longest Form behind taken (after ++ tail) → Longest Form (taken ++ after) taken after
cut_longest Form behind taken after tail l = (
  l.0,
  refl,
  λ longer rest form e. l.2 longer (rest ++ tail) form (l.1 ∙ sym (append_assoc taken after tail) ∙ ap (λ (t : List ℕ). t ++ tail) e ∙ append_assoc longer rest tail),
)

cut_blank_node : (text label after tail : List ℕ) → BlankNode text label (after ++ tail) → Cut (λ t. BlankNode t label after) text tail
cut_blank_node text label after tail n = record {
  short = 95 ∷ 58 ∷ (label ++ after);
  parts = n.1 ∙ ap (λ (t : List ℕ). 95 ∷ 58 ∷ t) (n.2.1 ∙ sym (append_assoc label after tail));
  is = (label ++ after, refl, cut_longest IsLabel n.0 label after tail n.2);
}

hat_more : (text tail : List ℕ) → HatFollows text → HatFollows (text ++ tail)
hat_more text tail h = (h.0, h.1 ++ tail, h.2, ap (λ (t : List ℕ). t ++ tail) h.3 ∙ append_assoc h.0 (94 ∷ h.1) tail)

cut_suffix : (text : List ℕ) (kind : LiteralKind) (after tail : List ℕ) → Suffix text kind (after ++ tail) → Cut (λ t. Suffix t kind after) text tail
cut_suffix text kind after tail (Suffix.plain no_at no_hat is same) = record {
  short = after;
  parts = sym same;
  is = Suffix.plain (λ s. no_at (subst (StartsWith (λ b. nat_eq b 64)) same (starts_more (λ b. nat_eq b 64) after tail s)))
      (λ h. no_hat (subst HatFollows same (hat_more after tail h))) is refl;
}
cut_suffix text kind after tail (Suffix.typed iri d no_lang is) =
    let i = cut_iri d.2 iri after tail d.6 in
    record {
      short = d.0 ++ 94 ∷ 94 ∷ (d.1 ++ i.short);
      parts =
          d.5 ∙ ap (λ (t : List ℕ). d.0 ++ 94 ∷ 94 ∷ (d.1 ++ t)) i.parts ∙ ap (λ (t : List ℕ). d.0 ++ 94 ∷ 94 ∷ t) (sym (append_assoc d.1 i.short tail))
          ∙ sym (append_assoc d.0 (94 ∷ 94 ∷ (d.1 ++ i.short)) tail);
      is = Suffix.typed iri (d.0, d.1, i.short, d.3, d.4, refl, i.is) no_lang is;
    }
cut_suffix text kind after tail (Suffix.tagged tag t is) = record {
  short = 64 ∷ (tag ++ after);
  parts = t.1 ∙ ap (λ (b : List ℕ). 64 ∷ b) (t.2.1 ∙ sym (append_assoc tag after tail));
  is = Suffix.tagged tag (tag ++ after, refl, cut_longest TagForm t.0 tag after tail t.2, λ s. t.3 (starts_more (λ b. nat_eq b 45) after tail s)) is;
}

cut_literal : (text : List ℕ) (literal : Literal) (after tail : List ℕ) → LiteralAt text literal (after ++ tail) → Cut (λ t. LiteralAt t literal after) text tail
cut_literal text literal after tail l =
    let s = cut_suffix l.1 literal.kind after tail l.4 in
    record {
      short = l.0 ++ s.short;
      parts = l.3 ∙ ap (λ (t : List ℕ). l.0 ++ t) s.parts ∙ sym (append_assoc l.0 s.short tail);
      is = (l.0, s.short, l.2, refl, s.is);
    }

pub cut_term : (text : List ℕ) (t : Term) (after tail : List ℕ) → TermAt text t (after ++ tail) → Cut (λ short. TermAt short t after) text tail
cut_term text (term.Iri iri) after tail is = cut_iri text iri after tail is
cut_term text (term.Blank label) after tail is = cut_blank_node text label after tail is
cut_term text (term.Literal literal) after tail is = cut_literal text literal after tail is

cut_graph : (text : List ℕ) (g : Option Term) (after tail : List ℕ) → GraphAndDotAt text g (after ++ tail) → Cut (λ short. GraphAndDotAt short g after) text tail
cut_graph text None after tail e = record { short = 46 ∷ after; parts = e; is = refl }
cut_graph text (Some g) after tail p =
    let b = cut_blanks p.0 (46 ∷ after) tail p.3 in
    let t = cut_term text g b.short tail (subst (λ (u : List ℕ). TermAt text g u) b.parts p.1) in
    record { short = t.short; parts = t.parts; is = (b.short, t.is, p.2, b.is) }

pub cut_statement : (text : List ℕ) (q : Statement) (after tail : List ℕ) → StatementAt text q (after ++ tail) → Cut (λ short. StatementAt short q after) text tail
cut_statement text q after tail h =
    let f = cut_graph h.5 q.graph after tail h.14 in
    let e = cut_blanks h.4 f.short tail (subst (Blanks h.4) f.parts h.13) in
    let d = cut_term h.3 q.object e.short tail (subst (λ (u : List ℕ). TermAt h.3 q.object u) e.parts h.12) in
    let c = cut_blanks h.2 d.short tail (subst (Blanks h.2) d.parts h.11) in
    let b = cut_term h.1 q.predicate c.short tail (subst (λ (u : List ℕ). TermAt h.1 q.predicate u) c.parts h.9) in
    let a = cut_blanks h.0 b.short tail (subst (Blanks h.0) b.parts h.8) in
    let s = cut_term text q.subject a.short tail (subst (λ (u : List ℕ). TermAt text q.subject u) a.parts h.6) in
    record { short = s.short; parts = s.parts; is = (a.short, b.short, c.short, d.short, e.short, f.short, s.is, h.7, a.is, b.is, h.10, c.is, d.is, e.is, f.is) }

-- ---- a label has no byte that ends a line

name_no_end : (c : ℕ) → is_name_char c ≡ true → is_line_end c ≡ false
unfolding is_name_char
name_no_end c e = by (nat_eq c 10) refl (nat_eq c 13) refl
  where
    by : (s : Bool) → nat_eq c 10 ≡ s → (t : Bool) → nat_eq c 13 ≡ t → (s || t) ≡ false
    by true p t q = absurd (false≢true (subst (λ (k : ℕ). is_name_char k ≡ true) (eqb-true c 10 p) e))
    by false p true q = absurd (false≢true (subst (λ (k : ℕ). is_name_char k ≡ true) (eqb-true c 13 q) e))
    by false p false q = refl

begins_no_end : (c : ℕ) → begins_name c ≡ true → is_line_end c ≡ false
unfolding is_name_start
begins_no_end c e = by (nat_eq c 10) refl (nat_eq c 13) refl
  where
    by : (s : Bool) → nat_eq c 10 ≡ s → (t : Bool) → nat_eq c 13 ≡ t → (s || t) ≡ false
    by true p t q = absurd (false≢true (subst (λ (k : ℕ). begins_name k ≡ true) (eqb-true c 10 p) e))
    by false p true q = absurd (false≢true (subst (λ (k : ℕ). begins_name k ≡ true) (eqb-true c 13 q) e))
    by false p false q = refl

inner_no_end : (c : ℕ) → is_inner c ≡ true → is_line_end c ≡ false
inner_no_end c e = by (nat_eq c 46) refl e
  where
    by : (dot : Bool) → nat_eq c 46 ≡ dot → (dot || is_name_char c) ≡ true → is_line_end c ≡ false
    by true p e = ap is_line_end (eqb-true c 46 p)
    by false p e = name_no_end c e

chars_no_end : (cs : List ℕ) → AreInner cs → list_all no_end (encode_utf8_all cs) ≡ true
chars_no_end [] i = refl
chars_no_end (c ∷ []) i = list_all-append no_end (encode_utf8 c) [] ∙ rw (char_ends_none c (name_no_end c i)) refl
chars_no_end (c ∷ d ∷ cs) i = list_all-append no_end (encode_utf8 c) (encode_utf8_all (d ∷ cs)) ∙ rw (char_ends_none c (inner_no_end c i.0), chars_no_end (d ∷ cs) i.1) refl

label_no_end : (label : List ℕ) → IsLabel label → list_all no_end label ≡ true
unfolding IsLabel
label_no_end label l = ap (list_all no_end) l.2 ∙ by l.0 l.3
  where
    by : (cs : List ℕ) → LabelChars cs → list_all no_end (encode_utf8_all cs) ≡ true
    by [] i = absurd i
    by (c ∷ cs) i = list_all-append no_end (encode_utf8 c) (encode_utf8_all cs) ∙ rw (char_ends_none c (begins_no_end c i.0), chars_no_end cs i.1) refl

-- ---- nor has a tag

all_weaker : (p q : ℕ → Bool) → ((c : ℕ) → p c ≡ true → q c ≡ true) → (cs : List ℕ) → list_all p cs ≡ true → list_all q cs ≡ true
all_weaker p q weaker [] all = refl
all_weaker p q weaker (c ∷ cs) all = let t = and_parts (p c) (list_all p cs) all in rw (weaker c t.0, all_weaker p q weaker cs t.1) refl

word_no_end : (test : ℕ → Bool) → test 10 ≡ false → test 13 ≡ false → (c : ℕ) → test c ≡ true → no_end c ≡ true
word_no_end test ten thirteen c e = by (nat_eq c 10) refl (nat_eq c 13) refl
  where
    by : (s : Bool) → nat_eq c 10 ≡ s → (t : Bool) → nat_eq c 13 ≡ t → not (s || t) ≡ true
    by true p t q = absurd (false≢true (sym ten ∙ ap test (sym (eqb-true c 10 p)) ∙ e))
    by false p true q = absurd (false≢true (sym thirteen ∙ ap test (sym (eqb-true c 13 q)) ∙ e))
    by false p false q = refl

words_no_end : (parts : List (List ℕ)) → AreWords is_ascii_alphanumeric parts → list_all no_end (flat_map (λ part. 45 ∷ part) parts) ≡ true
words_no_end [] all = refl
words_no_end (part ∷ parts) all =
    list_all-append no_end (45 ∷ part) (flat_map (λ part. 45 ∷ part) parts)
    ∙ rw (all_weaker is_ascii_alphanumeric no_end (word_no_end is_ascii_alphanumeric refl refl) part all.0.1, words_no_end parts all.1) refl

tag_no_end : (tag : List ℕ) → TagForm tag → list_all no_end tag ≡ true
tag_no_end tag form =
    ap (list_all no_end) form.4 ∙ list_all-append no_end form.0 (flat_map (λ part. 45 ∷ part) form.1)
    ∙ rw (all_weaker is_ascii_alphabetic no_end (word_no_end is_ascii_alphabetic refl refl) form.0 form.2.1, words_no_end form.1 form.3) refl

-- ---- with the tail

close_starts : (test : ℕ → Bool) → test 10 ≡ false → test 13 ≡ false → (tail : List ℕ) → Closes tail → StartsWith test tail → ⊥
close_starts test ten thirteen [] c s = s
close_starts test ten thirteen (b ∷ rest) c s = by (nat_eq b 10) refl c
  where
    by : (t : Bool) → nat_eq b 10 ≡ t → (t || nat_eq b 13) ≡ true → ⊥
    by true e c = false≢true (sym ten ∙ ap test (sym (eqb-true b 10 e)) ∙ s)
    by false e c = false≢true (sym thirteen ∙ ap test (sym (eqb-true b 13 c)) ∙ s)

starts_tail : (test : ℕ → Bool) → test 10 ≡ false → test 13 ≡ false → (text tail : List ℕ) → Closes tail → (StartsWith test text → ⊥) → StartsWith test (text ++ tail) → ⊥
starts_tail test ten thirteen [] tail c none s = close_starts test ten thirteen tail c s
starts_tail test ten thirteen (b ∷ text) tail c none s = none s

pub add_blanks : (text after tail : List ℕ) → Closes tail → Blanks text after → Blanks (text ++ tail) (after ++ tail)
add_blanks text after tail c b =
    (b.0, ap (λ (t : List ℕ). t ++ tail) b.1 ∙ append_assoc b.0 after tail, b.2, starts_tail is_blank refl refl after tail c b.3)

add_iri : (text iri after tail : List ℕ) → IriRef text iri after → IriRef (text ++ tail) iri (after ++ tail)
add_iri text iri after tail r = (r.0, r.1, ap (λ (t : List ℕ). t ++ tail) r.2 ∙ append_assoc r.0 after tail)

-- lists with a common front
within_front : (longer front tail rest : List ℕ) → length longer ≤ length front → front ++ tail ≡ longer ++ rest → (more : List ℕ) × (front ≡ longer ++ more)
within_front [] front tail rest le e = (front, refl)
within_front (x ∷ longer) [] tail rest le e = absurd (omega arith)
within_front (x ∷ longer) (y ∷ front) tail rest le e =
    let head : y ≡ x = cc in let tails : front ++ tail ≡ longer ++ rest = cc in
    let w = within_front longer front tail rest (omega arith) tails in
    (w.0, ap (λ (t : List ℕ). y ∷ t) w.1 ∙ ap (λ (z : ℕ). z ∷ (longer ++ w.0)) head)

past_front : (longer front tail rest : List ℕ) → length front < length longer → front ++ tail ≡ longer ++ rest → (b : ℕ) × (more : List ℕ) × (tail ≡ b ∷ more) × (list_all no_end longer ≡ true → no_end b ≡ true)
past_front [] front tail rest lt e = absurd (omega arith)
past_front (x ∷ longer) [] tail rest lt e = (x, longer ++ rest, e, λ all. (and_parts (no_end x) (list_all no_end longer) all).0)
past_front (x ∷ longer) (y ∷ front) tail rest lt e =
    let tails : front ++ tail ≡ longer ++ rest = cc in
    let p = past_front longer front tail rest (omega arith) tails in
    (p.0, p.1, p.2, λ all. p.3 (and_parts (no_end x) (list_all no_end longer) all).1)

no_close : (b : ℕ) → is_line_end b ≡ true → no_end b ≡ true → ⊥
no_close b e n = false≢true (sym (ap not e) ∙ n)

-- the longest text of a form that has no line's end is the longest before the tail too
add_longest : (Form : List ℕ → Type 0) → ((bytes : List ℕ) → Form bytes → list_all no_end bytes ≡ true) → (behind taken after tail : List ℕ) → Closes tail
    → Longest Form behind taken after → Longest Form (behind ++ tail) taken (after ++ tail)
add_longest Form none behind taken after tail c l = (l.0, ap (λ (t : List ℕ). t ++ tail) l.1 ∙ append_assoc taken after tail, longest)
  where
    longest : (longer rest : List ℕ) → Form longer → behind ++ tail ≡ longer ++ rest → length longer ≤ length taken
    longest longer rest form e =
        elim (cases_lt (length behind) (length longer)) [
          | inl past ↦
              let p = past_front longer behind tail rest past e in
              absurd (no_close p.0 (subst Closes p.2 c) (p.3 (none longer form)))
          | inr within ↦ let w = within_front longer behind tail rest within e in l.2 longer w.0 form w.1
        ]

add_blank_node : (text label after tail : List ℕ) → Closes tail → BlankNode text label after → BlankNode (text ++ tail) label (after ++ tail)
add_blank_node text label after tail c n = (n.0 ++ tail, ap (λ (t : List ℕ). t ++ tail) n.1, add_longest IsLabel label_no_end n.0 label after tail c n.2)

no_hat_more : (text tail : List ℕ) → Closes tail → (HatFollows text → ⊥) → HatFollows (text ++ tail) → ⊥
no_hat_more text tail c no_hat h =
    by (skip_blanks text) (blanks_found text)
    (sym (blanks_again (text ++ tail) (skip_blanks text ++ tail) (add_blanks text (skip_blanks text) tail c (blanks_found text))) ∙ hat_behind (text ++ tail) h.0 h.1 h.2 h.3)
  where
    by : (rest : List ℕ) → Blanks text rest → rest ++ tail ≡ 94 ∷ h.1 → ⊥
    by [] b e = close_starts (λ x. nat_eq x 94) refl refl tail c (subst (StartsWith (λ x. nat_eq x 94)) (sym e) refl)
    by (x ∷ rest) b e = let same : x ≡ 94 = cc in no_hat (b.0, rest, b.2, b.1 ∙ ap (λ (y : ℕ). b.0 ++ y ∷ rest) same)

add_suffix : (text : List ℕ) (kind : LiteralKind) (after tail : List ℕ) → Closes tail → Suffix text kind after → Suffix (text ++ tail) kind (after ++ tail)
add_suffix text kind after tail c (Suffix.plain no_at no_hat is same) =
    Suffix.plain (starts_tail (λ b. nat_eq b 64) refl refl text tail c no_at) (no_hat_more text tail c no_hat) is (ap (λ (t : List ℕ). t ++ tail) same)
add_suffix text kind after tail c (Suffix.typed iri d no_lang is) =
    Suffix.typed iri (
      d.0,
      d.1,
      d.2 ++ tail,
      d.3,
      d.4,
      ap (λ (t : List ℕ). t ++ tail) d.5 ∙ append_assoc d.0 (94 ∷ 94 ∷ (d.1 ++ d.2)) tail ∙ ap (λ (t : List ℕ). d.0 ++ 94 ∷ 94 ∷ t) (append_assoc d.1 d.2 tail),
      add_iri d.2 iri after tail d.6,
    )
    no_lang is
add_suffix text kind after tail c (Suffix.tagged tag t is) =
    Suffix.tagged tag
    (t.0 ++ tail, ap (λ (b : List ℕ). b ++ tail) t.1, add_longest TagForm tag_no_end t.0 tag after tail c t.2, starts_tail (λ b. nat_eq b 45) refl refl after tail c t.3) is

add_literal : (text : List ℕ) (literal : Literal) (after tail : List ℕ) → Closes tail → LiteralAt text literal after → LiteralAt (text ++ tail) literal (after ++ tail)
add_literal text literal after tail c l =
    (l.0, l.1 ++ tail, l.2, ap (λ (t : List ℕ). t ++ tail) l.3 ∙ append_assoc l.0 l.1 tail, add_suffix l.1 literal.kind after tail c l.4)

pub add_term : (text : List ℕ) (t : Term) (after tail : List ℕ) → Closes tail → TermAt text t after → TermAt (text ++ tail) t (after ++ tail)
add_term text (term.Iri iri) after tail c is = add_iri text iri after tail is
add_term text (term.Blank label) after tail c is = add_blank_node text label after tail c is
add_term text (term.Literal literal) after tail c is = add_literal text literal after tail c is

add_graph : (text : List ℕ) (g : Option Term) (after tail : List ℕ) → Closes tail → GraphAndDotAt text g after → GraphAndDotAt (text ++ tail) g (after ++ tail)
add_graph text None after tail c e = ap (λ (t : List ℕ). t ++ tail) e
add_graph text (Some g) after tail c p = (p.0 ++ tail, add_term text g p.0 tail c p.1, p.2, add_blanks p.0 (46 ∷ after) tail c p.3)

pub add_statement : (text : List ℕ) (q : Statement) (after tail : List ℕ) → Closes tail → StatementAt text q after → StatementAt (text ++ tail) q (after ++ tail)
add_statement text q after tail c h = (
  h.0 ++ tail,
  h.1 ++ tail,
  h.2 ++ tail,
  h.3 ++ tail,
  h.4 ++ tail,
  h.5 ++ tail,
  add_term text q.subject h.0 tail c h.6,
  h.7,
  add_blanks h.0 h.1 tail c h.8,
  add_term h.1 q.predicate h.2 tail c h.9,
  h.10,
  add_blanks h.2 h.3 tail c h.11,
  add_term h.3 q.object h.4 tail c h.12,
  add_blanks h.4 h.5 tail c h.13,
  add_graph h.5 q.graph after tail c h.14,
)
