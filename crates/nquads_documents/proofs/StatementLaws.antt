-- A statement is read exactly where the grammar has one, where that is so of terms.
use Rattle.std.proofs.Common.{◌≡◌, ℕ, Bool, true, false, cond, ◌||◌, List, ◌∷◌, Option, Some, None, Ok, Err, nat_eq, refl, sym, ap, subst, ◌∙◌, ⊎_elim, arith}
use Rattle.std.proofs.lemmas.Bool.{eqb-true}
use Rattle.rdf_terms.specs.declared.term.Term.{Term}
use Rattle.rdf_terms.specs.declared.term.Term.TheVariants as term
use Rattle.rdf_terms.specs.Quad.{Statement, statement, is_iri, is_literal}
use Rattle.nquads_text.specs.declared.fault.TextKind.TheVariants.{BadPosition, MissingDot, BadToken}
use Rattle.nquads_text.specs.Fault.{TextRead, ◌>>=◌}
use Rattle.nquads_text.specs.Reading.{char_at}
use Rattle.nquads_text.specs.Terms.{skip_blanks, iri_at, label_at, literal_at, term_at}
use Rattle.nquads_text.specs.Statement.{node_at, predicate_at, final_dot_at, graph_at, statement_at}
use Rattle.nquads_text.proofs.Inside.{low_char}
use Rattle.nquads_text.proofs.Steps.{bind_ok, chosen, ok_is, not_ok}
use Rattle.nquads_text.specs.Grammar.{Blanks, TermAt}
use Rattle.nquads_documents.specs.Grammar.{GraphAndDotAt, StatementAt}
use Rattle.nquads_documents.specs.Laws.{TermsFound, TermsAgain}
use Rattle.nquads_documents.proofs.BlankLaws.{blanks_found, blanks_again}
use Rattle.nquads_documents.proofs.LineLaws.{graph_none, dot_here}

-- what may begin a term
abbrev pub begins_term : ℕ → Bool
begins_term c = nat_eq c 60 || nat_eq c 95 || nat_eq c 34

pub record Begun (text : List ℕ) : Type 0 where
  pub first : ℕ × List ℕ
  pub read : char_at text ≡ Ok first
  pub begins : begins_term first.0 ≡ true

pub term_begun : (text : List ℕ) (x : Term × List ℕ) → term_at text ≡ Ok x → Begun text
unfolding term_at
term_begun text x e =
    let c = bind_ok (char_at text) (λ (c : ℕ × List ℕ).
    cond (nat_eq c.0 60) (iri_at text c.1 >>= λ iri. Ok (term.Iri iri.0, iri.1))
    (cond (nat_eq c.0 95) (label_at text c.1 >>= λ label. Ok (term.Blank label.0, label.1))
    (cond (nat_eq c.0 34) (literal_at text c.1 >>= λ literal. Ok (term.Literal literal.0, literal.1))
    (Err (BadToken, text))))) x e in
    record { first = c.0; read = c.1; begins = by (nat_eq c.0.0 60) (nat_eq c.0.0 95) (nat_eq c.0.0 34) _ _ _ c.2 }
  where
    by : (a b d : Bool) (r s t : TextRead Term) → cond a r (cond b s (cond d t (Err (BadToken, text)))) ≡ Ok x → (a || b || d) ≡ true
    by true b d r s t e = refl
    by false true d r s t e = refl
    by false false true r s t e = refl
    by false false false r s t e = absurd (not_ok x (BadToken, text) e)

pub dot_found : (text : List ℕ) (x : Option Term × List ℕ) → final_dot_at text ≡ Ok x → (x.0 ≡ None) × (text ≡ 46 ∷ x.1)
unfolding final_dot_at
dot_found text x e =
    let c = bind_ok (char_at text) (λ (c : ℕ × List ℕ). cond (nat_eq c.0 46) (Ok (None, c.1)) (Err (MissingDot, text))) x e in
    ⊎_elim
    (λ dot.
    let same = ok_is (None, c.0.1) x dot.1 in
    (ap (λ (y : Option Term × List ℕ). y.0) (sym same), low_char text c.0 46 c.1 (eqb-true c.0.0 46 dot.0) (omega arith) ∙ ap (λ (y : Option Term × List ℕ). 46 ∷ y.1) same))
    (λ other. absurd (not_ok x (MissingDot, text) other.1))
    (chosen (nat_eq c.0.0 46) (Ok (None, c.0.1)) (Err (MissingDot, text)) (Ok x) c.2)

module _ (found : TermsFound) (again : TermsAgain) where
  pub node_found : (text : List ℕ) (x : Term × List ℕ) → node_at text ≡ Ok x → TermAt text x.0 x.1 × (is_literal x.0 ≡ false)
  unfolding node_at
  node_found text x e =
      let t = bind_ok (term_at text) (λ (t : Term × List ℕ). cond (is_literal t.0) (Err (BadPosition, text)) (Ok t)) x e in
      ⊎_elim
      (λ bad. absurd (not_ok x (BadPosition, text) bad.1))
      (λ other. subst (λ (y : Term × List ℕ). TermAt text y.0 y.1 × (is_literal y.0 ≡ false)) (ok_is t.0 x other.1) (found text t.0.1 t.0.0 t.1, other.0))
      (chosen (is_literal t.0.0) (Err (BadPosition, text)) (Ok t.0) (Ok x) t.2)

  pub node_again : (text after : List ℕ) (t : Term) → TermAt text t after → is_literal t ≡ false → node_at text ≡ Ok (t, after)
  unfolding node_at
  node_again text after t is e = rw (again text after t is, e) refl

  pub predicate_found : (text : List ℕ) (x : Term × List ℕ) → predicate_at text ≡ Ok x → TermAt text x.0 x.1 × (is_iri x.0 ≡ true)
  unfolding predicate_at
  predicate_found text x e =
      let t = bind_ok (term_at text) (λ (t : Term × List ℕ). cond (is_iri t.0) (Ok t) (Err (BadPosition, text))) x e in
      ⊎_elim
      (λ iri. subst (λ (y : Term × List ℕ). TermAt text y.0 y.1 × (is_iri y.0 ≡ true)) (ok_is t.0 x iri.1) (found text t.0.1 t.0.0 t.1, iri.0))
      (λ bad. absurd (not_ok x (BadPosition, text) bad.1))
      (chosen (is_iri t.0.0) (Ok t.0) (Err (BadPosition, text)) (Ok x) t.2)

  pub predicate_again : (text after : List ℕ) (t : Term) → TermAt text t after → is_iri t ≡ true → predicate_at text ≡ Ok (t, after)
  unfolding predicate_at
  predicate_again text after t is e = rw (again text after t is, e) refl

  pub graph_found : (text : List ℕ) (x : Option Term × List ℕ) → graph_at text ≡ Ok x → GraphAndDotAt text x.0 x.1
  unfolding graph_at
  graph_found text x e =
      let c = bind_ok (char_at text) (λ (c : ℕ × List ℕ).
      cond (begins_term c.0) (node_at text >>= λ (g : Term × List ℕ). final_dot_at (skip_blanks g.1) >>= λ (dot : Option Term × List ℕ). Ok (Some g.0, dot.1)) (final_dot_at text)) x e in
      ⊎_elim
      (λ node.
      let g = bind_ok (node_at text) (λ (g : Term × List ℕ). final_dot_at (skip_blanks g.1) >>= λ (dot : Option Term × List ℕ). Ok (Some g.0, dot.1)) x node.1 in
      let dot = bind_ok (final_dot_at (skip_blanks g.0.1)) (λ (dot : Option Term × List ℕ). Ok (Some g.0.0, dot.1)) x g.2 in
      let t = node_found text g.0 g.1 in
      let d = dot_found (skip_blanks g.0.1) dot.0 dot.1 in
      subst (λ (y : Option Term × List ℕ). GraphAndDotAt text y.0 y.1) (ok_is (Some g.0.0, dot.0.1) x dot.2)
      (g.0.1, t.0, t.1, subst (Blanks g.0.1) d.1 (blanks_found g.0.1)))
      (λ none.
      let d = dot_found text x none.1 in
      subst (λ (g : Option Term). GraphAndDotAt text g x.1) (sym d.0) d.1)
      (chosen (begins_term c.0.0) (node_at text >>= λ (g : Term × List ℕ). final_dot_at (skip_blanks g.1) >>= λ (dot : Option Term × List ℕ). Ok (Some g.0, dot.1)) (final_dot_at text) (Ok x) c.2)

  pub graph_again : (text after : List ℕ) (g : Option Term) → GraphAndDotAt text g after → graph_at text ≡ Ok (g, after)
  unfolding graph_at
  graph_again text after None e = ap graph_at e ∙ graph_none after
  graph_again text after (Some g) p =
      let begun = term_begun text (g, p.0) (again text p.0 g p.1) in
      let node = node_again text p.0 g p.1 p.2 in
      let dot : skip_blanks p.0 ≡ 46 ∷ after = blanks_again p.0 (46 ∷ after) p.3 in
      rw (begun.read, begun.begins, node, dot, dot_here after) refl

  pub statement_found : (text : List ℕ) (x : Statement × List ℕ) → statement_at text ≡ Ok x → StatementAt text x.0 x.1
  unfolding statement_at
  statement_found text x e =
      let s = bind_ok (node_at text) (λ (s : Term × List ℕ). predicate_at (skip_blanks s.1) >>= λ (p : Term × List ℕ). term_at (skip_blanks p.1) >>= λ (o : Term × List ℕ). graph_at (skip_blanks o.1) >>= λ (g : Option Term × List ℕ). Ok (statement s.0 p.0 o.0 g.0, g.1)) x e in
      let p = bind_ok (predicate_at (skip_blanks s.0.1)) (λ (p : Term × List ℕ). term_at (skip_blanks p.1) >>= λ (o : Term × List ℕ). graph_at (skip_blanks o.1) >>= λ (g : Option Term × List ℕ). Ok (statement s.0.0 p.0 o.0 g.0, g.1)) x s.2 in
      let o = bind_ok (term_at (skip_blanks p.0.1)) (λ (o : Term × List ℕ). graph_at (skip_blanks o.1) >>= λ (g : Option Term × List ℕ). Ok (statement s.0.0 p.0.0 o.0 g.0, g.1)) x p.2 in
      let g = bind_ok (graph_at (skip_blanks o.0.1)) (λ (g : Option Term × List ℕ). Ok (statement s.0.0 p.0.0 o.0.0 g.0, g.1)) x o.2 in
      let fs = node_found text s.0 s.1 in
      let fp = predicate_found (skip_blanks s.0.1) p.0 p.1 in
      let fo = found (skip_blanks p.0.1) o.0.1 o.0.0 o.1 in
      let fg = graph_found (skip_blanks o.0.1) g.0 g.1 in
      subst (λ (y : Statement × List ℕ). StatementAt text y.0 y.1) (ok_is (statement s.0.0 p.0.0 o.0.0 g.0.0, g.0.1) x g.2)
      (s.0.1, skip_blanks s.0.1, p.0.1, skip_blanks p.0.1, o.0.1, skip_blanks o.0.1, fs.0, fs.1, blanks_found s.0.1, fp.0, fp.1, blanks_found p.0.1, fo, blanks_found o.0.1, fg)

  pub statement_again : (text after : List ℕ) (q : Statement) → StatementAt text q after → statement_at text ≡ Ok (q, after)
  unfolding statement_at
  statement_again text after q h =
      let s = node_again text h.0 q.subject h.6 h.7 in
      let to_p = blanks_again h.0 h.1 h.8 in
      let p = predicate_again h.1 h.2 q.predicate h.9 h.10 in
      let to_o = blanks_again h.2 h.3 h.11 in
      let o = again h.3 h.4 q.object h.12 in
      let to_g = blanks_again h.4 h.5 h.13 in
      let g = graph_again h.5 after q.graph h.14 in
      rw (s, to_p, p, to_o, o, to_g, g) refl
