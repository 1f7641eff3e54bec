-- Prefixes and their IRIs are read exactly.
use Rattle.std.proofs.Common.{◌≡◌, ℕ, ◌<◌, Bool, true, false, ◌||◌, List, [], ◌∷◌, ◌++◌, take, drop, nat_eq, not, Option, Some, None, Ok, Err, refl, sym, ap, subst, ◌∙◌, ◌⊎◌, inl, inr, ⊎_elim, arith}
use Rattle.std.specs.List.{list_all, prefix_len}
use Rattle.std.specs.Char.{is_ascii_alphabetic}
use Rattle.std.proofs.lemmas.Bool.{false≢true, eqb-true}
use Rattle.std.proofs.lemmas.Bool.Decides.{nat_tests}
use Rattle.rdf_terms.specs.declared.term.LiteralKind.{LiteralKind}
use Rattle.rdf_terms.specs.declared.term.LiteralKind.TheVariants.{Plain, Typed, Tagged}
use Rattle.rdf_terms.specs.declared.term.Term.{Term}
use Rattle.rdf_terms.specs.declared.term.Term.TheVariants as term
use Rattle.rdf_terms.specs.Iri.{IsIri, AllowedAll, has_scheme, is_forbidden}
use Rattle.rdf_terms.specs.Quad.{is_iri}
use Rattle.nquads_text.specs.declared.fault.TextKind.TheVariants.{BadIri, RelativeIri, BadPosition, BadToken}
use Rattle.nquads_text.specs.Grammar.{StartsWith, Longest}
use Rattle.nquads_text.specs.Faults.{begins_term}
use Rattle.patch_rows.specs.declared.fault.RowKind.TheVariants.{Common}
use Rattle.patch_rows.specs.Fault.{Fault}
use Rattle.patch_rows.specs.Grammar.{is_word_byte, IsKey, RowTerm, plain, PrefixAt, PrefixIriAt}
use Rattle.patch_rows.specs.Faults.{is_dot, RowLacks, RowTermFault, DotFault, PrefixFault, PrefixIriFault}
use Rattle.patch_rows.specs.Reading.{stands, past_colon, plain_of, plain_text, or_bad_position, iri_of_string, iri_of_term}
use Rattle.patch_rows.specs.declared.cut.TextEnd.TheVariants.{Known}
use Rattle.patch_rows.specs.Rows.{quoted_of, prefix_of, prefix_iri_of}
use Rattle.patch_rows.proofs.Exact.{Exact, exact_ok, exact_err, exact_of, restated, chained, choice}
use Rattle.patch_rows.proofs.TermLaws.{exact_needed, starts, started}
use Rattle.patch_rows.proofs.PartLaws.{or_none, none_or, apart, byte_there, exact_other, lacks_stands, term_no_dot}
use Rattle.patch_rows.proofs.RunLaws.{key_there, key_begins, key_is_run, pair}

-- ---- the first byte of a term

pub term_begins : (text : List ℕ) (t : Term) (after : List ℕ) → RowTerm text t after → stands begins_term text ≡ true
term_begins text (term.Iri iri) after (inl r) = ap (stands begins_term) (r.2 ∙ ap (λ (b : List ℕ). b ++ after) r.1.2)
term_begins text (term.Blank label) after (inl b) = ap (stands begins_term) b.1
term_begins text (term.Literal literal) after (inl g) = ap (stands begins_term) (g.3 ∙ ap (λ (b : List ℕ). b ++ g.1) g.2.2)
term_begins text t after (inr b) = ap (stands begins_term) b.1.2

-- ---- plain strings

-- an IRI, a plain string, or neither
pub data Shape (t : Term) : Type 0 where
  an_iri : (i : List ℕ) → t ≡ term.Iri i → Shape t
  a_string : (s : List ℕ) → t ≡ plain s → Shape t
  another : is_iri t ≡ false → ((s : List ℕ) → t ≡ plain s → ⊥) → plain_text t ≡ None → Shape t

abbrev literal_of : List ℕ → LiteralKind → Term
literal_of lexical kind = term.Literal (record { lexical = lexical; kind = kind })

abbrev pub NotPlain : Term → Type 0
NotPlain t = (string : List ℕ) → t ≡ plain string → ⊥

abbrev string_in : Option (List ℕ) → List ℕ
string_in None = []
string_in (Some s) = s

abbrev is_plain : Option (List ℕ) → Bool
is_plain None = false
is_plain (Some s) = true

not_plain : (t : Term) → plain_text t ≡ None → NotPlain t
not_plain t none s e = false≢true (ap is_plain (sym none) ∙ ap (λ (u : Term). is_plain (plain_text u)) e)

plain_same : (a b : List ℕ) → plain a ≡ plain b → a ≡ b
plain_same a b e = ap (λ (t : Term). string_in (plain_text t)) e

neither : (t : Term) → is_iri t ≡ false → plain_text t ≡ None → Shape t
neither t no_iri none = Shape.another no_iri (not_plain t none) none

shape : (t : Term) → Shape t
shape (term.Iri iri) = Shape.an_iri iri refl
shape (term.Blank label) = neither (term.Blank label) refl refl
shape (term.Literal literal) = by literal.lexical literal.kind
  where
    by : (lexical : List ℕ) (kind : LiteralKind) → Shape (literal_of lexical kind)
    by lexical Plain = Shape.a_string lexical refl
    by lexical (Typed iri) = neither (literal_of lexical (Typed iri)) refl refl
    by lexical (Tagged tag) = neither (literal_of lexical (Tagged tag)) refl refl

iri_not_plain : (iri : List ℕ) → NotPlain (term.Iri iri)
iri_not_plain iri = not_plain (term.Iri iri) refl

module _ (start after : List ℕ) where
  abbrev IsPlainRead : Term → List ℕ × List ℕ → Type 0
  IsPlainRead t y = (t ≡ plain y.0) × (y.1 ≡ after)

  abbrev NoPlainRead : Term → Fault → Type 0
  NoPlainRead t f = NotPlain t × (f ≡ (Common BadPosition, start))

  exact_none : (t : Term) → NotPlain t → plain_text t ≡ None → Exact (or_bad_position (plain_text t) start after) (IsPlainRead t) (NoPlainRead t)
  exact_none t none e =
      exact_of (or_bad_position (plain_text t) start after) (Err (Common BadPosition, start)) (IsPlainRead t) (NoPlainRead t) (ap (λ (o : Option (List ℕ)). or_bad_position o start after) e)
      (restated (exact_err (List ℕ × List ℕ) (Common BadPosition, start)) (λ y bad. absurd bad) (λ y p. none y.0 p.0) (λ f is. (none, is)) (λ f t. t.1))

  exact_string : (t : Term) (s : List ℕ) → t ≡ plain s → Exact (or_bad_position (plain_text t) start after) (IsPlainRead t) (NoPlainRead t)
  exact_string t s e =
      exact_of (or_bad_position (plain_text t) start after) (Ok (pair s after)) (IsPlainRead t) (NoPlainRead t) (ap (λ (u : Term). or_bad_position (plain_text u) start after) e)
      (restated (exact_ok (pair s after))
      (λ y same. (e ∙ ap (λ (v : List ℕ × List ℕ). plain v.0) (sym same), ap (λ (v : List ℕ × List ℕ). v.1) same))
      (λ y p. ap (λ (a : List ℕ). pair a y.1) (plain_same y.0 s (sym p.0 ∙ e)) ∙ ap (λ (b : List ℕ). pair s b) p.1)
      (λ f none. absurd none)
      (λ f n. n.0 s e))

  exact_plain_text : (t : Term) → Shape t → Exact (or_bad_position (plain_text t) start after) (IsPlainRead t) (NoPlainRead t)
  exact_plain_text t (Shape.an_iri iri e) = exact_none t (subst NotPlain (sym e) (iri_not_plain iri)) (ap plain_text e)
  exact_plain_text t (Shape.a_string s e) = exact_string t s e
  exact_plain_text t (Shape.another no_iri none e) = exact_none t none e

-- a term that is needed: none, or its fault
abbrev NeededFault : List ℕ → Fault → Type 0
NeededFault text f = DotFault text f ⊎ ((StartsWith is_dot text → ⊥) × RowTermFault text f)

abbrev QuotedFault : List ℕ → Fault → Type 0
QuotedFault text f = NeededFault text f ⊎ ((x : Term × List ℕ) × RowTerm text x.0 x.1 × (NotPlain x.0 × (f ≡ (Common BadPosition, text))))

exact_quoted : (text : List ℕ) → Exact (quoted_of Known text) (λ x. RowTerm text (plain x.0) x.1) (λ f. QuotedFault text f)
unfolding quoted_of
exact_quoted text =
    restated (chained (exact_needed text) (λ t. exact_plain_text text t.1 t.0 (shape t.0)))
    (λ x t. subst (λ (v : Term). RowTerm text v x.1) t.2.0 (subst (λ (s : List ℕ). RowTerm text t.0.0 s) (sym t.2.1) t.1))
    (λ x t. ((plain x.0, x.1), t, (refl, refl)))
    (λ f t. t)
    (λ f t. t)

-- ---- prefixes

abbrev colon : ℕ → Bool
colon b = nat_eq b 58

abbrev letter : ℕ → Bool
letter = is_ascii_alphabetic

-- the bytes with which a prefix begins, and the dot
abbrev opens : ℕ → Bool
opens c = is_dot c || colon c || letter c || begins_term c

opens_low : (c : ℕ) → opens c ≡ true → c < 128
opens_low c e = grind (arith, nat_tests)

letter_no_colon : (c : ℕ) → letter c ≡ true → colon c ≡ false
letter_no_colon c e = grind (arith, nat_tests)

term_no_colon : (c : ℕ) → begins_term c ≡ true → colon c ≡ false
term_no_colon c e = grind (arith, nat_tests)

term_no_letter : (c : ℕ) → begins_term c ≡ true → letter c ≡ false
term_no_letter c e = grind (arith, nat_tests)

dot_no_colon : (c : ℕ) → is_dot c ≡ true → colon c ≡ false
dot_no_colon c e = grind (arith, nat_tests)

dot_no_letter : (c : ℕ) → is_dot c ≡ true → letter c ≡ false
dot_no_letter c e = grind (arith, nat_tests)

opens_none : (text : List ℕ) → stands opens text ≡ false → (stands colon text ≡ false) × (stands letter text ≡ false) × (stands is_dot text ≡ false) × (stands begins_term text ≡ false)
opens_none text e =
    let a = or_none (λ c. is_dot c || colon c || letter c) begins_term text e in
    let b = or_none (λ c. is_dot c || colon c) letter text a.0 in
    let c = or_none is_dot colon text b.0 in (c.1, b.1, c.0, a.1)

none_opens : (text : List ℕ) → stands colon text ≡ false → stands letter text ≡ false → stands is_dot text ≡ false → stands begins_term text ≡ false → stands opens text ≡ false
none_opens text a b c d = none_or (λ x. is_dot x || colon x || letter x) begins_term text (none_or (λ x. is_dot x || colon x) letter text (none_or is_dot colon text c a) b) d

abbrev dot_or_term : List ℕ → Bool
dot_or_term text = stands is_dot text || stands begins_term text

second : (a b : Bool) → (a || b) ≡ true → (a ≡ true → ⊥) → b ≡ true
second true b e none = absurd (none refl)
second false b e none = e

either_none : (a b : Bool) → (a || b) ≡ false → (a ≡ false) × (b ≡ false)
either_none true b e = absurd (false≢true (sym e))
either_none false b e = (refl, e)

abbrev PrefixFaultShape : List ℕ → Fault → Type 0
PrefixFaultShape text f = ((stands colon text ≡ true) × ⊥) ⊎ ((stands colon text ≡ false) × (((stands letter text ≡ true) × ⊥) ⊎ ((stands letter text ≡ false)
    × (((dot_or_term text ≡ true) × QuotedFault text f) ⊎ ((dot_or_term text ≡ false) × RowLacks opens text (Common BadToken, text) f)))))

quoted_fault : (text : List ℕ) (f : Fault) → dot_or_term text ≡ true → QuotedFault text f → PrefixFault text f
quoted_fault text f e (inl (inl d)) = PrefixFault.dot d
quoted_fault text f e (inl (inr n)) = PrefixFault.term (starts begins_term text (second (stands is_dot text) (stands begins_term text) e (λ d. n.0 (starts is_dot text d)))) n.1
quoted_fault text f e (inr p) = PrefixFault.position p.0.0 p.0.1 p.1 p.2.0 p.2.1

prefix_fault : (text : List ℕ) (f : Fault) → PrefixFaultShape text f → PrefixFault text f
prefix_fault text f (inl a) = absurd a.1
prefix_fault text f (inr (_, inl b)) = absurd b.1
prefix_fault text f (inr (_, inr (_, inl c))) = quoted_fault text f c.0 c.1
prefix_fault text f (inr (_, inr (_, inr d))) = PrefixFault.other d.1

at_dot : (text : List ℕ) (f : Fault) → stands is_dot text ≡ true → QuotedFault text f → PrefixFaultShape text f
at_dot text f e q = inr (apart is_dot colon text dot_no_colon e, inr (apart is_dot letter text dot_no_letter e, inl (rw e refl, q)))

at_term : (text : List ℕ) (f : Fault) → stands begins_term text ≡ true → QuotedFault text f → PrefixFaultShape text f
at_term text f e q =
    inr (apart begins_term colon text term_no_colon e, inr (apart begins_term letter text term_no_letter e, inl (rw (apart begins_term is_dot text term_no_dot e, e) refl, q)))

prefix_shape : (text : List ℕ) (f : Fault) → PrefixFault text f → PrefixFaultShape text f
prefix_shape text f (PrefixFault.dot d) = at_dot text f (started is_dot text d.0) (inl (inl d))
prefix_shape text f (PrefixFault.other l) =
    let n = opens_none text (lacks_stands opens opens_low text (Common BadToken, text) f l) in inr (n.0, inr (n.1, inr (rw (n.2, n.3) refl, l)))
prefix_shape text f (PrefixFault.term s t) =
    let e = started begins_term text s in
    at_term text f e (inl (inr (λ d. false≢true (sym (apart begins_term is_dot text term_no_dot e) ∙ started is_dot text d), t)))
prefix_shape text f (PrefixFault.position t after is none e) = at_term text f (term_begins text t after is) (inr ((t, after), is, (none, e)))

-- a word, and a colon directly behind it or none
word_prefix : (text word left : List ℕ) → Longest IsKey text word left → PrefixAt text word (past_colon left)
word_prefix text word [] k = PrefixAt.word k (λ e. e)
word_prefix text word (b ∷ left) k = by (colon b) refl
  where
    by : (t : Bool) → colon b ≡ t → PrefixAt text word (past_colon (b ∷ left))
    by true e = rw e (PrefixAt.word_colon (subst (λ (c : ℕ). Longest IsKey text word (c ∷ left)) (eqb-true b 58 e) k))
    by false e = rw e (PrefixAt.word k (λ s. false≢true (sym e ∙ s)))

stays : (after : List ℕ) → (StartsWith colon after → ⊥) → past_colon after ≡ after
stays [] none = refl
stays (b ∷ after) none = by (colon b) refl
  where
    by : (t : Bool) → colon b ≡ t → past_colon (b ∷ after) ≡ b ∷ after
    by true e = absurd (none e)
    by false e = rw e refl

abbrev word_of : List ℕ → List ℕ
word_of text = take (prefix_len is_word_byte text) text

abbrev behind_word : List ℕ → List ℕ
behind_word text = past_colon (drop (prefix_len is_word_byte text) text)

abbrev PrefixShape : List ℕ → List ℕ × List ℕ → Type 0
PrefixShape text x = ((stands colon text ≡ true) × (x ≡ pair [] (drop 1 text))) ⊎ ((stands colon text ≡ false) × (((stands letter text ≡ true) × (x ≡ pair (word_of text) (behind_word text)))
    ⊎ ((stands letter text ≡ false) × (((dot_or_term text ≡ true) × RowTerm text (plain x.0) x.1) ⊎ ((dot_or_term text ≡ false) × ⊥)))))

prefix_found : (text : List ℕ) (x : List ℕ × List ℕ) → PrefixShape text x → PrefixAt text x.0 x.1
prefix_found text x (inl a) = PrefixAt.colon (byte_there 58 text a.0 ∙ ap (λ (v : List ℕ × List ℕ). 58 ∷ v.1) (sym a.1)) (ap (λ (v : List ℕ × List ℕ). v.0) a.1)
prefix_found text x (inr (_, inl b)) =
    subst (λ (v : List ℕ × List ℕ). PrefixAt text v.0 v.1) (sym b.1) (word_prefix text (word_of text) (drop (prefix_len is_word_byte text) text) (key_there text b.0))
prefix_found text x (inr (_, inr (_, inl c))) = PrefixAt.string c.1
prefix_found text x (inr (_, inr (_, inr d))) = absurd d.1

at_word : (text : List ℕ) (x : List ℕ × List ℕ) → stands letter text ≡ true → x ≡ pair (word_of text) (behind_word text) → PrefixShape text x
at_word text x e same = inr (apart letter colon text letter_no_colon e, inl (e, same))

shape_of_prefix : (text : List ℕ) (x : List ℕ × List ℕ) → PrefixAt text x.0 x.1 → PrefixShape text x
shape_of_prefix text x (PrefixAt.string r) =
    let e = term_begins text (plain x.0) x.1 r in
    inr (apart begins_term colon text term_no_colon e, inr (apart begins_term letter text term_no_letter e, inl (rw (apart begins_term is_dot text term_no_dot e, e) refl, r)))
shape_of_prefix text x (PrefixAt.word k none) =
    at_word text x (key_begins text x.0 x.1 k) (ap (λ (s : List ℕ). pair x.0 s) (sym (stays x.1 none)) ∙ ap (λ (v : List ℕ × List ℕ). pair v.0 (past_colon v.1)) (key_is_run text x.0 x.1 k))
shape_of_prefix text x (PrefixAt.word_colon k) =
    at_word text x (key_begins text x.0 (58 ∷ x.1) k) (ap (λ (v : List ℕ × List ℕ). pair v.0 (past_colon v.1)) (key_is_run text x.0 (58 ∷ x.1) k))
shape_of_prefix text x (PrefixAt.colon shape none) =
    inl (ap (stands colon) shape, ap (λ (a : List ℕ). pair a x.1) none ∙ ap (λ (s : List ℕ). pair [] (drop 1 s)) (sym shape))

pub exact_prefix : (text : List ℕ) → Exact (prefix_of Known text) (λ x. PrefixAt text x.0 x.1) (λ f. PrefixFault text f)
unfolding prefix_of
exact_prefix text =
    restated
    (choice (stands colon text) (λ a. exact_ok (pair [] (drop 1 text)))
    (λ no_colon. choice (stands letter text) (λ b. exact_ok (pair (word_of text) (behind_word text)))
    (λ no_letter. choice (dot_or_term text) (λ c. exact_quoted text)
    (λ none. let n = either_none (stands is_dot text) (stands begins_term text) none in
    exact_other opens opens_low text (List ℕ × List ℕ) (Common BadToken) (none_opens text no_colon no_letter n.0 n.1)))))
    (λ x t. prefix_found text x t)
    (λ x t. shape_of_prefix text x t)
    (λ f t. prefix_fault text f t)
    (λ f t. prefix_shape text f t)

-- ---- the IRI of a prefix

abbrev iri_in : Term → List ℕ
iri_in (term.Iri i) = i
iri_in (term.Blank label) = []
iri_in (term.Literal literal) = []

module _ (start after : List ℕ) where
  abbrev IriRead : Term → List ℕ × List ℕ → Type 0
  IriRead t y = ((t ≡ term.Iri y.0) ⊎ ((t ≡ plain y.0) × IsIri y.0)) × (y.1 ≡ after)

  abbrev StringFault : List ℕ → Fault → Type 0
  StringFault s f = ((AllowedAll s → ⊥) × (f ≡ (Common BadIri, start))) ⊎ (AllowedAll s × (has_scheme s ≡ false) × (f ≡ (Common RelativeIri, start)))

  abbrev IriFault : Term → Fault → Type 0
  IriFault t f = ((is_iri t ≡ false) × NotPlain t × (f ≡ (Common BadPosition, start))) ⊎ ((s : List ℕ) × (t ≡ plain s) × StringFault s f)

  exact_iri : (t : Term) (i : List ℕ) → t ≡ term.Iri i → Exact (iri_of_term start t after) (IriRead t) (IriFault t)
  exact_iri t i e =
      exact_of (iri_of_term start t after) (Ok (pair i after)) (IriRead t) (IriFault t) (ap (λ (u : Term). iri_of_term start u after) e)
      (restated (exact_ok (pair i after))
      (λ y same. (inl (e ∙ ap (λ (v : List ℕ × List ℕ). term.Iri v.0) (sym same)), ap (λ (v : List ℕ × List ℕ). v.1) same))
      (λ y p.
      ⊎_elim
      (λ is. ap (λ (a : List ℕ). pair a y.1) (ap iri_in (sym is ∙ e)) ∙ ap (λ (b : List ℕ). pair i b) p.1)
      (λ s. absurd (iri_not_plain i y.0 (sym e ∙ s.0)))
      p.0)
      (λ f none. absurd none)
      (λ f t. ⊎_elim (λ bad. false≢true (sym bad.0 ∙ ap is_iri e)) (λ s. iri_not_plain i s.0 (sym e ∙ s.1)) t))

  exact_spelled : (s : List ℕ) → Exact (iri_of_string start s after) (λ y. (y.0 ≡ s) × IsIri s × (y.1 ≡ after)) (λ f. StringFault s f)
  unfolding iri_of_string
  exact_spelled s =
      restated
      (choice (list_all (λ b. not (is_forbidden b)) s) (λ a. choice (has_scheme s) (λ b. exact_ok (pair s after)) (λ b. exact_err (List ℕ × List ℕ) (Common RelativeIri, start)))
      (λ a. exact_err (List ℕ × List ℕ) (Common BadIri, start)))
      (λ y t.
      ⊎_elim
      (λ a.
      ⊎_elim
      (λ b. (ap (λ (v : List ℕ × List ℕ). v.0) b.1, record { allowed = a.0; scheme = b.0 }, ap (λ (v : List ℕ × List ℕ). v.1) b.1))
      (λ b. absurd b.1)
      a.1)
      (λ a. absurd a.1)
      t)
      (λ y p. inl (p.1.allowed, inl (p.1.scheme, ap (λ (a : List ℕ). pair a y.1) p.0 ∙ ap (λ (b : List ℕ). pair s b) p.2)))
      (λ f t. ⊎_elim (λ a. ⊎_elim (λ b. absurd b.1) (λ b. inr (a.0, b.0, b.1)) a.1) (λ a. inl (λ all. false≢true (sym a.0 ∙ all), a.1)) t)
      (λ f t. ⊎_elim (λ a. inr (not_all (list_all (λ b. not (is_forbidden b)) s) a.0, a.1)) (λ b. inl (b.0, inr (b.1, b.2))) t)
    where
      not_all : (b : Bool) → (b ≡ true → ⊥) → b ≡ false
      not_all true none = absurd (none refl)
      not_all false none = refl

  exact_string_iri : (t : Term) (s : List ℕ) → t ≡ plain s → Exact (iri_of_term start t after) (IriRead t) (IriFault t)
  exact_string_iri t s e =
      exact_of (iri_of_term start t after) (iri_of_string start s after) (IriRead t) (IriFault t) (ap (λ (u : Term). iri_of_term start u after) e)
      (restated (exact_spelled s)
      (λ y p. (inr (e ∙ ap plain (sym p.0), subst IsIri (sym p.0) p.1), p.2))
      (λ y p.
      ⊎_elim
      (λ is. absurd (iri_not_plain y.0 s (sym is ∙ e)))
      (λ q. let same = plain_same y.0 s (sym q.0 ∙ e) in (same, subst IsIri same q.1, p.1))
      p.0)
      (λ f t. inr (s, e, t))
      (λ f t. ⊎_elim (λ bad. absurd (bad.1 s e)) (λ q. subst (λ (u : List ℕ). StringFault u f) (plain_same q.0 s (sym q.1 ∙ e)) q.2) t))

  exact_no_iri : (t : Term) → is_iri t ≡ false → NotPlain t → iri_of_term start t after ≡ Err (Common BadPosition, start) → Exact (iri_of_term start t after) (IriRead t) (IriFault t)
  exact_no_iri t no_iri none e =
      exact_of (iri_of_term start t after) (Err (Common BadPosition, start)) (IriRead t) (IriFault t) e
      (restated (exact_err (List ℕ × List ℕ) (Common BadPosition, start))
      (λ y bad. absurd bad)
      (λ y p. ⊎_elim (λ is. false≢true (sym no_iri ∙ ap is_iri is)) (λ q. none y.0 q.0) p.0)
      (λ f is. inl (no_iri, none, is))
      (λ f t. ⊎_elim (λ bad. bad.2) (λ q. absurd (none q.0 q.1)) t))

bad_literal : (start after lexical : List ℕ) (kind : LiteralKind) → is_plain (plain_of kind lexical) ≡ false → iri_of_term start (literal_of lexical kind) after ≡ Err (Common BadPosition, start)
bad_literal start after lexical Plain e = absurd (false≢true (sym e))
bad_literal start after lexical (Typed i) e = refl
bad_literal start after lexical (Tagged tag) e = refl

bad_term : (start after : List ℕ) (t : Term) → is_iri t ≡ false → plain_text t ≡ None → iri_of_term start t after ≡ Err (Common BadPosition, start)
bad_term start after (term.Iri i) no_iri none = absurd (false≢true (sym no_iri))
bad_term start after (term.Blank label) no_iri none = refl
bad_term start after (term.Literal literal) no_iri none = bad_literal start after literal.lexical literal.kind (ap is_plain none)

exact_iri_of : (start after : List ℕ) (t : Term) → Shape t → Exact (iri_of_term start t after) (IriRead start after t) (IriFault start after t)
exact_iri_of start after t (Shape.an_iri i e) = exact_iri start after t i e
exact_iri_of start after t (Shape.a_string s e) = exact_string_iri start after t s e
exact_iri_of start after t (Shape.another no_iri none e) = exact_no_iri start after t no_iri none (bad_term start after t no_iri e)

abbrev PrefixIriShape : List ℕ → Fault → Type 0
PrefixIriShape text f = NeededFault text f ⊎ ((x : Term × List ℕ) × RowTerm text x.0 x.1 × IriFault text x.1 x.0 f)

prefix_iri_fault : (text : List ℕ) (f : Fault) → PrefixIriShape text f → PrefixIriFault text f
prefix_iri_fault text f (inl (inl d)) = PrefixIriFault.dot d
prefix_iri_fault text f (inl (inr n)) = PrefixIriFault.term n.0 n.1
prefix_iri_fault text f (inr p) =
    ⊎_elim
    (λ bad. PrefixIriFault.position p.0.0 p.0.1 p.1 bad.0 bad.1 bad.2)
    (λ q.
    let there : RowTerm text (plain q.0) p.0.1 = subst (λ (t : Term). RowTerm text t p.0.1) q.1 p.1 in
    ⊎_elim (λ a. PrefixIriFault.forbidden q.0 p.0.1 there a.0 a.1) (λ b. PrefixIriFault.relative q.0 p.0.1 there b.0 b.1 b.2) q.2)
    p.2

prefix_iri_shape : (text : List ℕ) (f : Fault) → PrefixIriFault text f → PrefixIriShape text f
prefix_iri_shape text f (PrefixIriFault.dot d) = inl (inl d)
prefix_iri_shape text f (PrefixIriFault.term none t) = inl (inr (none, t))
prefix_iri_shape text f (PrefixIriFault.position t after is no_iri none e) = inr ((t, after), is, inl (no_iri, none, e))
prefix_iri_shape text f (PrefixIriFault.forbidden s after is none e) = inr ((plain s, after), is, inr (s, refl, inl (none, e)))
prefix_iri_shape text f (PrefixIriFault.relative s after is all none e) = inr ((plain s, after), is, inr (s, refl, inr (all, none, e)))

prefix_iri_found : (text : List ℕ) (x : List ℕ × List ℕ) (y : Term × List ℕ) → RowTerm text y.0 y.1 → IriRead text y.1 y.0 x → PrefixIriAt text x.0 x.1
prefix_iri_found text x y is r =
    let there : RowTerm text y.0 x.1 = subst (λ (s : List ℕ). RowTerm text y.0 s) (sym r.1) is in
    ⊎_elim
    (λ e. PrefixIriAt.reference (subst (λ (t : Term). RowTerm text t x.1) e there))
    (λ e. PrefixIriAt.string (subst (λ (t : Term). RowTerm text t x.1) e.0 there) e.1)
    r.0

shape_of_iri : (text : List ℕ) (x : List ℕ × List ℕ) → PrefixIriAt text x.0 x.1 → (y : Term × List ℕ) × RowTerm text y.0 y.1 × IriRead text y.1 y.0 x
shape_of_iri text x (PrefixIriAt.reference r) = ((term.Iri x.0, x.1), r, (inl refl, refl))
shape_of_iri text x (PrefixIriAt.string r is) = ((plain x.0, x.1), r, (inr (refl, is), refl))

pub exact_prefix_iri : (text : List ℕ) → Exact (prefix_iri_of Known text) (λ x. PrefixIriAt text x.0 x.1) (λ f. PrefixIriFault text f)
unfolding prefix_iri_of
exact_prefix_iri text =
    restated (chained (exact_needed text) (λ t. exact_iri_of text t.1 t.0 (shape t.0)))
    (λ x t. prefix_iri_found text x t.0 t.1 t.2)
    (λ x t. shape_of_iri text x t)
    (λ f t. prefix_iri_fault text f t)
    (λ f t. prefix_iri_shape text f t)
