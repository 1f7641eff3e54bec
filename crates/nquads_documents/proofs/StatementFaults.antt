-- The first fault of a statement is met in its reading, and no other is, where that is so of terms.
use Rattle.std.proofs.Common.{◌≡◌, ℕ, ◌<◌, Bool, true, false, cond, ◌||◌, List, [], ◌∷◌, ◌++◌, Option, Some, None, Ok, Err, nat_eq, refl, sym, ap, ◌∙◌, ◌⊎◌, inl, inr, ⊎_elim, arith}
use Rattle.std.specs.Char.{IsScalar, encode_utf8}
use Rattle.std.proofs.lemmas.Bool.{false≢true, eqb-true}
use Rattle.std.proofs.lemmas.Bool.Decides.{nat_tests}
use Rattle.std.proofs.lemmas.Str.{encode_ascii}
use Rattle.bstr.specs.Utf8.{decoded}
use Rattle.rdf_terms.specs.declared.term.Term.{Term}
use Rattle.rdf_terms.specs.Quad.{Statement, statement, is_iri, is_literal}
use Rattle.nquads_text.specs.declared.fault.TextKind.{TextKind}
use Rattle.nquads_text.specs.declared.fault.TextKind.TheVariants.{NotUtf8, BadPosition, MissingDot, Truncated}
use Rattle.nquads_text.specs.Fault.{TextRead, TextFault, ◌>>=◌}
use Rattle.nquads_text.specs.Reading.{char_at, char_or_fault}
use Rattle.nquads_text.specs.Terms.{skip_blanks, term_at}
use Rattle.nquads_text.specs.Statement.{node_at, predicate_at, final_dot_at, graph_at, statement_at}
use Rattle.nquads_text.proofs.Fronts.{char_spelled, char_again, char_at-ascii}
use Rattle.nquads_text.proofs.Steps.{bind_err, chosen, ok_is, not_both}
use Rattle.nquads_text.specs.Grammar.{StartsWith}
use Rattle.nquads_text.specs.Faults.{begins_term}
use Rattle.nquads_text.specs.Faults.{IsIllFormed}
use Rattle.nquads_documents.specs.Faults.{MissingFault, NoDotFault, NodeFault, PredicateFault, StatementGraphFault, SubjectAt, PredicateAt, ObjectAt, StatementFault}
use Rattle.nquads_documents.specs.Laws.{TermsFound, TermsAgain, TermFaultsFound, TermFaultsAgain}
use Rattle.nquads_documents.proofs.BlankLaws.{blanks_found, blanks_again}
use Rattle.nquads_documents.proofs.StatementLaws.{term_begun, node_found, node_again, predicate_found, predicate_again}

abbrev fails : {X : Type 0} → TextFault → TextRead X
fails f = Err f

pub err_is : {X : Type 0} (f g : TextFault) → fails {X = X} f ≡ fails g → f ≡ g
err_is f g e = cc

-- ---- a character

abbrev CharFails : List ℕ → TextFault → Type 0
CharFails text f = ((text ≡ []) × (f ≡ (Truncated, []))) ⊎ (IsIllFormed text × (f ≡ (NotUtf8, text)))

pub char_failed : (text : List ℕ) (f : TextFault) → char_at text ≡ Err f → CharFails text f
unfolding char_at
char_failed [] f e = inl (refl, sym (err_is (Truncated, []) f e))
char_failed (b ∷ bytes) f e = inr ((λ same. absurd cc, λ c after there. absurd (no_char c after there.0 there.1)), by (decoded (b ∷ bytes)).char e)
  where
    by : (o : Option ℕ) → char_or_fault o (decoded (b ∷ bytes)).size (b ∷ bytes) ≡ Err f → f ≡ (NotUtf8, b ∷ bytes)
    by None e = sym (err_is (NotUtf8, b ∷ bytes) f e)
    by (Some c) e = absurd (not_both _ f e)

    no_char : (c : ℕ) (after : List ℕ) → IsScalar c → b ∷ bytes ≡ encode_utf8 c ++ after → ⊥
    no_char c after s parts = not_both (c, after) f (sym (ap char_at parts ∙ char_again c after s) ∙ e)

pub ill_formed : (text : List ℕ) → IsIllFormed text → char_at text ≡ Err (NotUtf8, text)
unfolding char_at
ill_formed [] i = absurd (i.0 refl)
ill_formed (b ∷ bytes) i = by (decoded (b ∷ bytes)).char refl
  where
    by : (o : Option ℕ) → (decoded (b ∷ bytes)).char ≡ o → char_or_fault o (decoded (b ∷ bytes)).size (b ∷ bytes) ≡ Err (NotUtf8, b ∷ bytes)
    by None e = refl
    by (Some c) e =
        let read : char_at (b ∷ bytes) ≡ Ok (c, _) = ap (λ (o : Option ℕ). char_or_fault o (decoded (b ∷ bytes)).size (b ∷ bytes)) e in
        let s = char_spelled (b ∷ bytes) c _ read in absurd (i.1 c _ s)

-- a token that one character tells
module _ {X : Type 0} (kind : TextKind) (test : ℕ → Bool) (text : List ℕ) (value : ℕ × List ℕ → X × List ℕ) where
  abbrev token : TextRead X
  token = char_at text >>= λ (c : ℕ × List ℕ). cond (test c.0) (Ok (value c)) (Err (kind, text))

  pub token_failed : (f : TextFault) → token ≡ Err f → MissingFault kind test text f
  token_failed f e =
      ⊎_elim
      (λ none. ⊎_elim (λ cut. inl cut) (λ bad. inr (inl bad)) (char_failed text f none))
      (λ some.
      let s = char_spelled text some.0.0 some.0.1 some.1 in
      ⊎_elim
      (λ yes. absurd (not_both (value some.0) f yes.1))
      (λ no. inr (inr (some.0.0, some.0.1, s.0, s.1, no.0, sym (err_is {X = X} (kind, text) f no.1))))
      (chosen (test some.0.0) (Ok (value some.0)) (Err (kind, text)) (Err f) some.2))
      (bind_err (char_at text) (λ (c : ℕ × List ℕ). cond (test c.0) (Ok (value c)) (Err (kind, text))) f e)

  pub token_fails : (f : TextFault) → MissingFault kind test text f → token ≡ Err f
  unfolding char_at
  token_fails f (inl cut) = ap (λ (t : List ℕ). char_at t >>= λ (c : ℕ × List ℕ). cond (test c.0) (Ok (value c)) (Err (kind, text))) cut.0 ∙ ap fails (sym cut.1)
  token_fails f (inr (inl bad)) = rw (ill_formed text bad.0) (ap fails (sym bad.1))
  token_fails f (inr (inr other)) =
      let read : char_at text ≡ Ok (other.0, other.1) = ap char_at other.3 ∙ char_again other.0 other.1 other.2 in
      rw (read, other.4) (ap fails (sym other.5))

-- ---- the parts of a statement

dot_failed : (text : List ℕ) (f : TextFault) → final_dot_at text ≡ Err f → NoDotFault text f
unfolding final_dot_at
dot_failed text f e = token_failed {X = Option Term} MissingDot (λ c. nat_eq c 46) text (λ c. (None, c.1)) f e

dot_fails : (text : List ℕ) (f : TextFault) → NoDotFault text f → final_dot_at text ≡ Err f
unfolding final_dot_at
dot_fails text f d = token_fails {X = Option Term} MissingDot (λ c. nat_eq c 46) text (λ c. (None, c.1)) f d

abbrev first_begins : ℕ × List ℕ → Bool
first_begins c = begins_term c.0

-- a byte that begins a term is a character of its own
starts_char : (text : List ℕ) (c : ℕ) (after : List ℕ) → text ≡ encode_utf8 c ++ after → begins_term c ≡ true → StartsWith begins_term text
starts_char text c after parts e = by (nat_eq c 60) refl (nat_eq c 95) refl (nat_eq c 34) refl e
  where
    low : (d : ℕ) → c ≡ d → d < 128 → begins_term d ≡ true → (t : List ℕ) → t ≡ encode_utf8 c ++ after → StartsWith begins_term t
    low d same lt begins [] p =
        let none : encode_utf8 c ++ after ≡ d ∷ after = ap (λ (k : ℕ). encode_utf8 k ++ after) same ∙ ap (λ (u : List ℕ). u ++ after) (encode_ascii d lt) in absurd (let bad : [] ≡ d ∷ after = p ∙ none in cc)
    low d same lt begins (b ∷ rest) p =
        let first : encode_utf8 c ++ after ≡ d ∷ after = ap (λ (k : ℕ). encode_utf8 k ++ after) same ∙ ap (λ (u : List ℕ). u ++ after) (encode_ascii d lt) in
        let all : b ∷ rest ≡ d ∷ after = p ∙ first in let head : b ≡ d = cc in ap begins_term head ∙ begins

    by : (s : Bool) → nat_eq c 60 ≡ s → (t : Bool) → nat_eq c 95 ≡ t → (u : Bool) → nat_eq c 34 ≡ u → (s || t || u) ≡ true → StartsWith begins_term text
    by true p t q u r e = low 60 (eqb-true c 60 p) (omega arith) refl text parts
    by false p true q u r e = low 95 (eqb-true c 95 q) (omega arith) refl text parts
    by false p false q true r e = low 34 (eqb-true c 34 r) (omega arith) refl text parts
    by false p false q false r e = absurd (false≢true e)

begins_low : (b : ℕ) → begins_term b ≡ true → b < 128
begins_low b e = grind (arith, nat_tests)

-- and the other way round
char_starts : (text : List ℕ) → StartsWith begins_term text → (c : ℕ × List ℕ) × (char_at text ≡ Ok c) × (begins_term c.0 ≡ true)
char_starts [] s = absurd s
char_starts (b ∷ rest) s = ((b, rest), char_at-ascii b rest (begins_low b s), s)

module _ (TermFault : List ℕ → TextFault → Type 0) (found : TermsFound) (again : TermsAgain) (failed : TermFaultsFound TermFault) (fails_again : TermFaultsAgain TermFault) where
  node_failed : (text : List ℕ) (f : TextFault) → node_at text ≡ Err f → NodeFault TermFault text f
  unfolding node_at
  node_failed text f e =
      ⊎_elim
      (λ none. inl (failed text f none))
      (λ t.
      ⊎_elim
      (λ bad. inr (t.0.0, t.0.1, found text t.0.1 t.0.0 t.1, bad.0, sym (err_is {X = Term} (BadPosition, text) f bad.1)))
      (λ good. absurd (not_both t.0 f good.1))
      (chosen (is_literal t.0.0) (Err (BadPosition, text)) (Ok t.0) (Err f) t.2))
      (bind_err (term_at text) (λ (t : Term × List ℕ). cond (is_literal t.0) (Err (BadPosition, text)) (Ok t)) f e)

  node_fails : (text : List ℕ) (f : TextFault) → NodeFault TermFault text f → node_at text ≡ Err f
  unfolding node_at
  node_fails text f (inl none) = rw (fails_again text f none) refl
  node_fails text f (inr bad) = rw (again text bad.1 bad.0 bad.2, bad.3) (ap fails (sym bad.4))

  predicate_failed : (text : List ℕ) (f : TextFault) → predicate_at text ≡ Err f → PredicateFault TermFault text f
  unfolding predicate_at
  predicate_failed text f e =
      ⊎_elim
      (λ none. inl (failed text f none))
      (λ t.
      ⊎_elim
      (λ good. absurd (not_both t.0 f good.1))
      (λ bad. inr (t.0.0, t.0.1, found text t.0.1 t.0.0 t.1, bad.0, sym (err_is {X = Term} (BadPosition, text) f bad.1)))
      (chosen (is_iri t.0.0) (Ok t.0) (Err (BadPosition, text)) (Err f) t.2))
      (bind_err (term_at text) (λ (t : Term × List ℕ). cond (is_iri t.0) (Ok t) (Err (BadPosition, text))) f e)

  predicate_fails : (text : List ℕ) (f : TextFault) → PredicateFault TermFault text f → predicate_at text ≡ Err f
  unfolding predicate_at
  predicate_fails text f (inl none) = rw (fails_again text f none) refl
  predicate_fails text f (inr bad) = rw (again text bad.1 bad.0 bad.2, bad.3) (ap fails (sym bad.4))

  abbrev with_dot : Term × List ℕ → TextRead (Option Term)
  with_dot g = final_dot_at (skip_blanks g.1) >>= λ (dot : Option Term × List ℕ). Ok (Some g.0, dot.1)

  with_dot_failed : (g : Term × List ℕ) (f : TextFault) → with_dot g ≡ Err f → final_dot_at (skip_blanks g.1) ≡ Err f
  with_dot_failed g f e =
      ⊎_elim
      (λ none. none)
      (λ dot. absurd (not_both (Some g.0, dot.0.1) f dot.2))
      (bind_err (final_dot_at (skip_blanks g.1)) (λ (dot : Option Term × List ℕ). Ok (Some g.0, dot.1)) f e)

  -- a character that can't be read begins no term
  no_start : (text : List ℕ) (f : TextFault) → char_at text ≡ Err f → StartsWith begins_term text → ⊥
  no_start text f e s = let c = char_starts text s in not_both c.0 f (sym c.1 ∙ e)

  char_is_dot_fault : (text : List ℕ) (f : TextFault) → char_at text ≡ Err f → NoDotFault text f
  char_is_dot_fault text f e = ⊎_elim (λ cut. inl cut) (λ bad. inr (inl bad)) (char_failed text f e)

  graph_failed : (text : List ℕ) (f : TextFault) → graph_at text ≡ Err f → StatementGraphFault TermFault text f
  unfolding graph_at
  graph_failed text f e =
      ⊎_elim
      (λ none. inr (inr (no_start text f none, char_is_dot_fault text f none)))
      (λ c.
      let s = char_spelled text c.0.0 c.0.1 c.1 in
      ⊎_elim
      (λ node.
      ⊎_elim
      (λ bad. inl (starts_char text c.0.0 c.0.1 s.1 node.0, node_failed text f bad))
      (λ g.
      let t = node_found found again text g.0 g.1 in
      inr (inl (g.0.0, g.0.1, skip_blanks g.0.1, t.0, t.1, blanks_found g.0.1, dot_failed (skip_blanks g.0.1) f (with_dot_failed g.0 f g.2))))
      (bind_err (node_at text) with_dot f node.1))
      (λ other.
      inr (inr (
        λ starts. let d = char_starts text starts in false≢true (sym other.0 ∙ ap first_begins (ok_is c.0 d.0 (sym c.1 ∙ d.1)) ∙ d.2),
        dot_failed text f other.1,
      )))
      (chosen (begins_term c.0.0) (node_at text >>= with_dot) (final_dot_at text) (Err f) c.2))
      (bind_err (char_at text) (λ (c : ℕ × List ℕ). cond (begins_term c.0) (node_at text >>= with_dot) (final_dot_at text)) f e)

  -- the dot's fault, where no term begins
  graph_by_dot : (text : List ℕ) (f : TextFault) → (StartsWith begins_term text → ⊥) → (r : TextRead ℕ) → char_at text ≡ r → final_dot_at text ≡ Err f → graph_at text ≡ Err f
  unfolding graph_at final_dot_at
  graph_by_dot text f none (Err g) e d =
      let same : g ≡ f = err_is {X = Option Term} g f (sym (ap (λ (r : TextRead ℕ). r >>= λ (c : ℕ × List ℕ). cond (nat_eq c.0 46) (Ok (None, c.1)) (Err (MissingDot, text))) e) ∙ d) in
      rw e (ap fails same)
  graph_by_dot text f none (Ok c) e d =
      let s = char_spelled text c.0 c.1 e in
      let other : begins_term c.0 ≡ false = by (begins_term c.0) refl s.1 in
      rw (e, other) (sym (ap (λ (r : TextRead ℕ). r >>= λ (c : ℕ × List ℕ). cond (nat_eq c.0 46) (Ok (None, c.1)) (Err (MissingDot, text))) e) ∙ d)
    where
      by : (b : Bool) → begins_term c.0 ≡ b → text ≡ encode_utf8 c.0 ++ c.1 → b ≡ false
      by true is parts = absurd (none (starts_char text c.0 c.1 parts is))
      by false is parts = refl

  graph_fails : (text : List ℕ) (f : TextFault) → StatementGraphFault TermFault text f → graph_at text ≡ Err f
  unfolding graph_at
  graph_fails text f (inl node) =
      let c = char_starts text node.0 in
      rw (c.1, c.2, node_fails text f node.1) refl
  graph_fails text f (inr (inl graph)) =
      let begun = term_begun text (graph.0, graph.1) (again text graph.1 graph.0 graph.3) in
      let node = node_again found again text graph.1 graph.0 graph.3 graph.4 in
      let skipped = blanks_again graph.1 graph.2 graph.5 in
      rw (begun.read, begun.begins, node, skipped, dot_fails graph.2 f graph.6) refl
  graph_fails text f (inr (inr other)) = graph_by_dot text f other.0 (char_at text) refl (dot_fails text f other.1)

  -- ---- the statement

  abbrev rest_3 : Term → Term → Term × List ℕ → TextRead Statement
  rest_3 s p o = graph_at (skip_blanks o.1) >>= λ (g : Option Term × List ℕ). Ok (statement s p o.0 g.0, g.1)

  abbrev rest_2 : Term → Term × List ℕ → TextRead Statement
  rest_2 s p = term_at (skip_blanks p.1) >>= rest_3 s p.0

  abbrev rest_1 : Term × List ℕ → TextRead Statement
  rest_1 s = predicate_at (skip_blanks s.1) >>= rest_2 s.0

  pub statement_failed : (text : List ℕ) (f : TextFault) → statement_at text ≡ Err f → StatementFault TermFault text f
  unfolding statement_at
  statement_failed text f e =
      ⊎_elim
      (λ bad. inl (node_failed text f bad))
      (λ s.
      let subject : SubjectAt text (skip_blanks s.0.1) = let t = node_found found again text s.0 s.1 in (s.0.0, s.0.1, t.0, t.1, blanks_found s.0.1) in
      ⊎_elim
      (λ bad. inr (inl (skip_blanks s.0.1, subject, predicate_failed (skip_blanks s.0.1) f bad)))
      (λ p.
      let predicate : PredicateAt (skip_blanks s.0.1) (skip_blanks p.0.1) = let t = predicate_found found again (skip_blanks s.0.1) p.0 p.1 in (p.0.0, p.0.1, t.0, t.1, blanks_found p.0.1) in
      ⊎_elim
      (λ bad. inr (inr (inl (skip_blanks s.0.1, skip_blanks p.0.1, subject, predicate, failed (skip_blanks p.0.1) f bad))))
      (λ o.
      let object : ObjectAt (skip_blanks p.0.1) (skip_blanks o.0.1) = (o.0.0, o.0.1, found (skip_blanks p.0.1) o.0.1 o.0.0 o.1, blanks_found o.0.1) in
      ⊎_elim
      (λ bad. inr (inr (inr (skip_blanks s.0.1, skip_blanks p.0.1, skip_blanks o.0.1, subject, predicate, object, graph_failed (skip_blanks o.0.1) f bad))))
      (λ g. absurd (not_both (statement s.0.0 p.0.0 o.0.0 g.0.0, g.0.1) f g.2))
      (bind_err (graph_at (skip_blanks o.0.1)) (λ (g : Option Term × List ℕ). Ok (statement s.0.0 p.0.0 o.0.0 g.0, g.1)) f o.2))
      (bind_err (term_at (skip_blanks p.0.1)) (rest_3 s.0.0 p.0.0) f p.2))
      (bind_err (predicate_at (skip_blanks s.0.1)) (rest_2 s.0.0) f s.2))
      (bind_err (node_at text) rest_1 f e)

  subject_again : (text b : List ℕ) (s : SubjectAt text b) → (node_at text ≡ Ok (s.0, s.1)) × (skip_blanks s.1 ≡ b)
  subject_again text b s = (node_again found again text s.1 s.0 s.2 s.3, blanks_again s.1 b s.4)

  predicate_there : (text b : List ℕ) (p : PredicateAt text b) → (predicate_at text ≡ Ok (p.0, p.1)) × (skip_blanks p.1 ≡ b)
  predicate_there text b p = (predicate_again found again text p.1 p.0 p.2 p.3, blanks_again p.1 b p.4)

  pub statement_fails : (text : List ℕ) (f : TextFault) → StatementFault TermFault text f → statement_at text ≡ Err f
  unfolding statement_at
  statement_fails text f (inl bad) = rw (node_fails text f bad) refl
  statement_fails text f (inr (inl bad)) =
      let s = subject_again text bad.0 bad.1 in
      rw (s.0, s.1, predicate_fails bad.0 f bad.2) refl
  statement_fails text f (inr (inr (inl bad))) =
      let s = subject_again text bad.0 bad.2 in let p = predicate_there bad.0 bad.1 bad.3 in
      rw (s.0, s.1, p.0, p.1, fails_again bad.1 f bad.4) refl
  statement_fails text f (inr (inr (inr bad))) =
      let s = subject_again text bad.0 bad.3 in let p = predicate_there bad.0 bad.1 bad.4 in
      let o = again bad.1 bad.5.1 bad.5.0 bad.5.2 in let to_g = blanks_again bad.5.1 bad.2 bad.5.3 in
      rw (s.0, s.1, p.0, p.1, o, to_g, graph_fails bad.2 f bad.6) refl
