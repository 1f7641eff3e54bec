-- Terms, statements and parts that are written as they are read.
use Rattle.std.proofs.Common.{◌≡◌, ℕ, ◌+◌, ◌-◌, ◌<◌, ◌≤◌, true, false, List, [], ◌∷◌, ◌++◌, length, take, drop, get_or, nat_eq, Option, Some, None, Ok, refl, sym, ap, subst, ◌∙◌, inl, inr, arith, append_assoc}
use Rattle.std.proofs.lemmas.Bool.{cases_lt, ne_eqb}
use Rattle.std.proofs.lemmas.List.{append-nil, drop_all, drop_more, length-append, length-drop, take_at}
use Rattle.rdf_terms.specs.declared.term.Term.{Term}
use Rattle.rdf_terms.specs.declared.term.Term.TheVariants as term
use Rattle.rdf_terms.specs.Quad.{Statement, statement, is_iri, is_literal}
use Rattle.rdf_terms.specs.Line.{graph_text, line, term_text}
use Rattle.canonical_scan.specs.Found.{IsTermThere, HasTerm}
use Rattle.nquads_text.specs.declared.fault.ReadFault.{ReadFault}
use Rattle.nquads_text.specs.declared.fault.ReadFault.TheVariants.{At}
use Rattle.nquads_text.specs.declared.fault.TextKind.TheVariants.{BadPosition}
use Rattle.nquads_text.specs.Fault.{Fails, Pushes, TextRead, ◌>>=◌}
use Rattle.nquads_text.specs.Grammar.{TermAt}
use Rattle.nquads_text.specs.Reading.{char_at}
use Rattle.nquads_text.specs.Statement.{node_at, predicate_at, final_dot_at, graph_at, statement_at}
use Rattle.nquads_text.specs.Terms.{skip_blanks, term_at}
use Rattle.nquads_text.proofs.Printed.{printed}
use Rattle.nquads_text.proofs.Steps.{fails_then}
use Rattle.nquads_text.specs.Grammar.{is_line_end}
use Rattle.nquads_documents.specs.Reading.{comment_at, comment_part, line_end_at, document_part_at, statement_part}
use Rattle.nquads_documents.specs.Shown.{PushesPart}
use Rattle.nquads_documents.proofs.Parted.{line_parts}
use Rattle.nquads_documents.proofs.Steps.{part_comment, part_statement}
use Rattle.nquads_documents.proofs.StatementLaws.{begins_term}
use Rattle.nquads_documents.proofs.TermsRead.{terms_found, terms_again}

-- ---- terms

-- the byte with which a term begins
abbrev pub first_of : Term → ℕ
first_of (term.Iri iri) = 60
first_of (term.Blank label) = 95
first_of (term.Literal literal) = 34

term_first : (text after : List ℕ) (t : Term) → TermAt text t after → (rest : List ℕ) × (text ≡ first_of t ∷ rest)
term_first text after (term.Iri iri) is = ((is.1.0 ++ 62 ∷ []) ++ after, is.2 ∙ ap (λ (b : List ℕ). b ++ after) is.1.2)
term_first text after (term.Blank label) is = (58 ∷ is.0, is.1)
term_first text after (term.Literal literal) is = ((is.2.0 ++ 34 ∷ []) ++ is.1, is.3 ∙ ap (λ (b : List ℕ). b ++ is.1) is.2.2)

stands_at : (text rest : List ℕ) (at b : ℕ) → drop at text ≡ b ∷ rest → (at < length text) × (get_or text at 0 ≡ b)
stands_at text rest at b e =
    elim (cases_lt at (length text)) [
      | inl lt ↦
          let more : get_or text at 0 ∷ drop (at + 1) text ≡ b ∷ rest = sym (drop_more text at 0 lt) ∙ e in
          let same : get_or text at 0 ≡ b = cc in
          (lt, same)
      | inr le ↦ let none : [] ≡ b ∷ rest = sym (drop_all at text le) ∙ e in absurd cc
    ]

pub begins : (text after : List ℕ) (at : ℕ) (t : Term) → term_at (drop at text) ≡ Ok (t, after) → (at < length text) × (get_or text at 0 ≡ first_of t)
begins text after at t e = let first = term_first (drop at text) after t (terms_found (drop at text) after t e) in stands_at text first.0 at (first_of t) first.1

literal_first : (t : Term) → is_literal t ≡ nat_eq (first_of t) 34
literal_first (term.Iri iri) = refl
literal_first (term.Blank label) = refl
literal_first (term.Literal literal) = refl

iri_first : (t : Term) → is_iri t ≡ nat_eq (first_of t) 60
iri_first (term.Iri iri) = refl
iri_first (term.Blank label) = refl
iri_first (term.Literal literal) = refl

pub term_bound : (text old new : List ℕ) (at end : ℕ) → Pushes term_text text old new (Ok end) (term_at (drop at text)) → at < length text
term_bound text old new at end p = (begins text (drop end text) at p.0 p.1).0

-- a term whose canonical text stands there is read
pub term_there : (text old new : List ℕ) (at end : ℕ) → HasTerm text at end → new ≡ old ++ take (end - at) (drop at text) → Pushes term_text text old new (Ok end) (term_at (drop at text))
term_there text old new at end has e = by has.0 has.1
  where
    by : (t : Term) → IsTermThere text at end t → Pushes term_text text old new (Ok end) (term_at (drop at text))
    by t is =
        let there = is.stands in let within' = is.within in let further' = is.further in
        let left : length (drop at text) ≡ length (term_text t) + length (drop end text) = ap length is.stands ∙ length-append (term_text t) (drop end text) in
        let size : end - at ≡ length (term_text t) = omega (arith, left, length-drop at text, length-drop end text, is.within, is.further) in
        let taken : take (end - at) (drop at text) ≡ term_text t = ap (take (end - at)) is.stands ∙ take_at (term_text t) (drop end text) (end - at) (sym size) in (
          t,
          terms_again (drop at text) (drop end text) t (subst (λ (b : List ℕ). TermAt b t (drop end text)) (sym is.stands) (printed t (drop end text) is.value is.ends)),
          is.within,
          e ∙ ap (λ (b : List ℕ). old ++ b) taken,
        )

-- ---- nodes and predicates

pub node_fails : (text rest : List ℕ) (e : ReadFault) → Fails text e (term_at rest) → Fails text e (node_at rest)
unfolding node_at
node_fails text rest e f = fails_then text e (term_at rest) _ f

pub node_pushed : (text old new : List ℕ) (at end : ℕ) → Pushes term_text text old new (Ok end) (term_at (drop at text)) → (get_or text at 0 ≡ 34 → ⊥) → Pushes term_text text old new (Ok end) (node_at (drop at text))
unfolding node_at
node_pushed text old new at end p other =
    let first = (begins text (drop end text) at p.0 p.1).1 in
    let node : is_literal p.0 ≡ false = literal_first p.0 ∙ ap (λ (b : ℕ). nat_eq b 34) (sym first) ∙ ne_eqb (get_or text at 0) 34 other in
    (p.0, rw (p.1, node) refl, p.2, p.3)

pub node_refused : (text old new : List ℕ) (at end : ℕ) → at ≤ length text → Pushes term_text text old new (Ok end) (term_at (drop at text)) → get_or text at 0 ≡ 34
    → Fails text (At at BadPosition) (node_at (drop at text))
unfolding node_at
node_refused text old new at end within p quote =
    let first = (begins text (drop end text) at p.0 p.1).1 in
    let literal : is_literal p.0 ≡ true = literal_first p.0 ∙ ap (λ (b : ℕ). nat_eq b 34) (sym first ∙ quote) in
    (rw (p.1, literal) refl, within)

pub predicate_fails : (text rest : List ℕ) (e : ReadFault) → Fails text e (term_at rest) → Fails text e (predicate_at rest)
unfolding predicate_at
predicate_fails text rest e f = fails_then text e (term_at rest) _ f

pub predicate_pushed : (text old new : List ℕ) (at end : ℕ) → Pushes term_text text old new (Ok end) (term_at (drop at text)) → get_or text at 0 ≡ 60 → Pushes term_text text old new (Ok end) (predicate_at (drop at text))
unfolding predicate_at
predicate_pushed text old new at end p bracket =
    let first = (begins text (drop end text) at p.0 p.1).1 in
    let iri : is_iri p.0 ≡ true = iri_first p.0 ∙ ap (λ (b : ℕ). nat_eq b 60) (sym first ∙ bracket) in
    (p.0, rw (p.1, iri) refl, p.2, p.3)

pub predicate_refused : (text old new : List ℕ) (at end : ℕ) → at ≤ length text → Pushes term_text text old new (Ok end) (term_at (drop at text)) → (get_or text at 0 ≡ 60 → ⊥)
    → Fails text (At at BadPosition) (predicate_at (drop at text))
unfolding predicate_at
predicate_refused text old new at end within p other =
    let first = (begins text (drop end text) at p.0 p.1).1 in
    let not_iri : is_iri p.0 ≡ false = iri_first p.0 ∙ ap (λ (b : ℕ). nat_eq b 60) (sym first) ∙ ne_eqb (get_or text at 0) 60 other in
    (rw (p.1, not_iri) refl, within)

-- ---- graphs

module _ (text rest after : List ℕ) (c : ℕ) (first : char_at rest ≡ Ok (c, after)) where
  pub graph_node_fails : (e : ReadFault) → begins_term c ≡ true → Fails text e (node_at rest) → Fails text e (graph_at rest)
  unfolding graph_at
  graph_node_fails e begun f = rw (first, begun) (fails_then text e (node_at rest) _ f)

  pub graph_dot_fails : (e : ReadFault) (old new dot : List ℕ) (end : ℕ) → begins_term c ≡ true → Pushes term_text text old new (Ok end) (node_at rest) → dot ≡ skip_blanks (drop end text)
      → Fails text e (final_dot_at dot) → Fails text e (graph_at rest)
  unfolding graph_at
  graph_dot_fails e old new dot end begun p skipped f = rw (first, begun, p.1, sym skipped) (fails_then text e (final_dot_at dot) _ f)

  pub graph_pushed : (old new dot : List ℕ) (end next : ℕ) → begins_term c ≡ true → Pushes term_text text (old ++ 32 ∷ []) new (Ok end) (node_at rest) → dot ≡ skip_blanks (drop end text)
      → final_dot_at dot ≡ Ok (None, drop next text) → next ≤ length text → Pushes graph_text text old new (Ok next) (graph_at rest)
  unfolding graph_at
  graph_pushed old new dot end next begun p skipped e within = (Some p.0, rw (first, begun, p.1, sym skipped, e) refl, within, p.3 ∙ append_assoc old (32 ∷ []) (term_text p.0))

  pub graph_none_fails : (e : ReadFault) → begins_term c ≡ false → Fails text e (final_dot_at rest) → Fails text e (graph_at rest)
  unfolding graph_at
  graph_none_fails e none f = rw (first, none) f

  pub graph_none_pushed : (old : List ℕ) (next : ℕ) → begins_term c ≡ false → final_dot_at rest ≡ Ok (None, drop next text) → next ≤ length text → Pushes graph_text text old old (Ok next) (graph_at rest)
  unfolding graph_at
  graph_none_pushed old next none e within = (None, rw (first, none) e, within, sym (append-nil old))

pub graph_fails : (text rest : List ℕ) (e : ReadFault) → Fails text e (char_at rest) → Fails text e (graph_at rest)
unfolding graph_at
graph_fails text rest e f = fails_then text e (char_at rest) _ f

-- ---- statements

pub statement_fails : (text rest : List ℕ) (e : ReadFault) → Fails text e (node_at rest) → Fails text e (statement_at rest)
unfolding statement_at
statement_fails text rest e f = fails_then text e (node_at rest) _ f

module _ (text rest second : List ℕ) (s : Term) (s_end : List ℕ) (subject : node_at rest ≡ Ok (s, s_end)) (to_second : second ≡ skip_blanks s_end) where
  pub predicate_is_missing : (e : ReadFault) → Fails text e (predicate_at second) → Fails text e (statement_at rest)
  unfolding statement_at
  predicate_is_missing e f = rw (subject, sym to_second) (fails_then text e (predicate_at second) _ f)

  module _ (third : List ℕ) (p : Term) (p_end : List ℕ) (predicate : predicate_at second ≡ Ok (p, p_end)) (to_third : third ≡ skip_blanks p_end) where
    pub object_is_missing : (e : ReadFault) → Fails text e (term_at third) → Fails text e (statement_at rest)
    unfolding statement_at
    object_is_missing e f = rw (subject, sym to_second, predicate, sym to_third) (fails_then text e (term_at third) _ f)

    module _ (fourth : List ℕ) (o : Term) (o_end : List ℕ) (object : term_at third ≡ Ok (o, o_end)) (to_fourth : fourth ≡ skip_blanks o_end) where
      pub graph_is_missing : (e : ReadFault) → Fails text e (graph_at fourth) → Fails text e (statement_at rest)
      unfolding statement_at
      graph_is_missing e f = rw (subject, sym to_second, predicate, sym to_third, object, sym to_fourth) (fails_then text e (graph_at fourth) _ f)

      pub statement_there : (g : Option Term) (after : List ℕ) → graph_at fourth ≡ Ok (g, after) → statement_at rest ≡ Ok (statement s p o g, after)
      unfolding statement_at
      statement_there g after graph = rw (subject, sym to_second, predicate, sym to_third, object, sym to_fourth, graph) refl

-- the parts of a line, each behind what was written before
pub line_pushed : (old s s_space p p_space o g all : List ℕ) (q : Statement) → s ≡ old ++ term_text q.subject → s_space ≡ s ++ 32 ∷ [] → p ≡ s_space ++ term_text q.predicate → p_space ≡ p ++ 32 ∷ []
    → o ≡ p_space ++ term_text q.object → g ≡ o ++ graph_text q.graph → all ≡ g ++ (32 ∷ 46 ∷ 10 ∷ []) → all ≡ old ++ line q
line_pushed old s s_space p p_space o g all q subject space_s predicate space_p object graph end =
    let parts : List ℕ → List ℕ = λ (t : List ℕ). (t ++ graph_text q.graph) ++ (32 ∷ 46 ∷ 10 ∷ []) in
    let whole : o ≡ ((((old ++ term_text q.subject) ++ 32 ∷ []) ++ term_text q.predicate) ++ 32 ∷ []) ++ term_text q.object =
    object
    ∙ ap (λ (t : List ℕ). t ++ term_text q.object) space_p
    ∙ ap (λ (t : List ℕ). (t ++ 32 ∷ []) ++ term_text q.object) predicate
    ∙ ap (λ (t : List ℕ). ((t ++ term_text q.predicate) ++ 32 ∷ []) ++ term_text q.object) space_s
    ∙ ap (λ (t : List ℕ). (((t ++ 32 ∷ []) ++ term_text q.predicate) ++ 32 ∷ []) ++ term_text q.object) subject in
    end
    ∙ ap (λ (t : List ℕ). t ++ (32 ∷ 46 ∷ 10 ∷ [])) graph
    ∙ ap parts whole
    ∙ line_parts old q

-- ---- parts

pub no_line : (text old : List ℕ) (next : ℕ) (read : TextRead (Option Statement)) → read ≡ Ok (None, drop next text) → next ≤ length text → PushesPart text old old (Ok (false, next)) read
no_line text old next read e within = (None, e, within, refl, sym (append-nil old))

module _ (text rest : List ℕ) (at : ℕ) (behind : drop at text ≡ skip_blanks rest) (inside : at < length text) (no_end : is_line_end (get_or text at 0) ≡ false) where
  pub comment_fails : (e : ReadFault) → get_or text at 0 ≡ 35 → Fails text e (comment_at 0 (drop (at + 1) text)) → Fails text e (document_part_at rest)
  unfolding comment_part
  comment_fails e hash f = rw (part_comment text rest at behind inside no_end hash) (fails_then text e (comment_at 0 (drop (at + 1) text)) _ f)

  pub comment_there : (old : List ℕ) (end : ℕ) → get_or text at 0 ≡ 35 → comment_at 0 (drop (at + 1) text) ≡ Ok (tt, drop end text) → end ≤ length text → PushesPart text old old (Ok (false, end)) (document_part_at rest)
  unfolding comment_part
  comment_there old end hash e within = no_line text old end (document_part_at rest) (part_comment text rest at behind inside no_end hash ∙ rw e refl) within

  pub part_fails_there : (e : ReadFault) → (get_or text at 0 ≡ 35 → ⊥) → Fails text e (statement_at (drop at text)) → Fails text e (document_part_at rest)
  unfolding statement_part
  part_fails_there e other f = rw (part_statement text rest at behind inside no_end other) (fails_then text e (statement_at (drop at text)) _ f)

  pub end_fails : (e : ReadFault) (old new : List ℕ) (dot : ℕ) → (get_or text at 0 ≡ 35 → ⊥) → Pushes line text old new (Ok dot) (statement_at (drop at text)) → Fails text e (line_end_at (drop dot text))
      → Fails text e (document_part_at rest)
  unfolding statement_part
  end_fails e old new dot other p f = rw (part_statement text rest at behind inside no_end other, p.1) (fails_then text e (line_end_at (drop dot text)) _ f)

  pub line_there : (old new : List ℕ) (dot end : ℕ) → (get_or text at 0 ≡ 35 → ⊥) → Pushes line text old new (Ok dot) (statement_at (drop at text)) → line_end_at (drop dot text) ≡ Ok (tt, drop end text) → end ≤ length text
      → PushesPart text old new (Ok (true, end)) (document_part_at rest)
  unfolding statement_part
  line_there old new dot end other p e within =
      (Some p.0, part_statement text rest at behind inside no_end other ∙ rw (p.1, e) refl, within, refl, p.3 ∙ ap (λ (b : List ℕ). old ++ b) (sym (append-nil (line p.0))))
