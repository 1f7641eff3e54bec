-- A printed line is read as its one statement.
use Rattle.std.proofs.Common.{◌≡◌, ℕ, ◌<◌, ◌≤◌, Bool, true, false, not, ◌&&◌, ◌||◌, List, [], ◌∷◌, ◌++◌, length, drop, Option, Some, None, Ok, nat_eq, refl, sym, ap, ◌∙◌, arith, append_assoc}
use Rattle.std.specs.List.{flat_map}
use Rattle.std.proofs.lemmas.Bool.{and_parts, false≢true}
use Rattle.std.proofs.lemmas.List.{append-nil, length-append, drop_at}
use Rattle.std.proofs.lemmas.List.Elements.{All-head, All-tail}
use Rattle.rdf_terms.specs.declared.term.Term.{Term}
use Rattle.rdf_terms.specs.declared.term.Term.TheVariants as term
use Rattle.rdf_terms.specs.Quad.{Statement, is_iri, is_literal, may_be_graph}
use Rattle.nquads_text.specs.Terms.{skip_blanks, term_at}
use Rattle.nquads_text.specs.Statement.{node_at, predicate_at, final_dot_at, graph_at, statement_at}
use Rattle.nquads_text.specs.Grammar.{is_blank}
use Rattle.nquads_text.specs.Printing.{IsTermValue, IsGraphValue, EndsTerm}
use Rattle.rdf_terms.specs.Line.{term_text}
use Rattle.nquads_text.proofs.Printed.{printed, space_ends}
use Rattle.nquads_text.proofs.TermReads.{term_is_read}
use Rattle.nquads_text.proofs.Fronts.{char_at-ascii}
use Rattle.nquads_text.proofs.Steps.{ok_is}
use Rattle.rdf_terms.specs.Line.{line, graph_text}
use Rattle.nquads_documents.specs.Laws.{IsQuadValue, LinesRead, LinesApart}
use Rattle.nquads_documents.specs.Reading.{line_end_at, statement_part, part_by, document_part_at, with_part, document_at}
use Rattle.nquads_documents.proofs.Documents.{document_part}

-- ---- a space before a term, and behind it

skip_term : (t : Term) (rest : List ℕ) → skip_blanks (term_text t ++ rest) ≡ term_text t ++ rest
unfolding skip_blanks
skip_term (term.Iri iri) rest = refl
skip_term (term.Blank label) rest = refl
skip_term (term.Literal literal) rest = refl

skip_space : (rest : List ℕ) → skip_blanks (32 ∷ rest) ≡ skip_blanks rest
unfolding skip_blanks
skip_space rest = refl

skip_dot : (rest : List ℕ) → skip_blanks (46 ∷ rest) ≡ 46 ∷ rest
unfolding skip_blanks
skip_dot rest = refl

space_to_term : (t : Term) (rest : List ℕ) → skip_blanks (32 ∷ (term_text t ++ rest)) ≡ term_text t ++ rest
space_to_term t rest = skip_space (term_text t ++ rest) ∙ skip_term t rest

-- a byte that is no blank and no hat
abbrev Stands : List ℕ → Type 0
Stands [] = ⊥
Stands (b ∷ rest) = (is_blank b ≡ false) × (nat_eq b 94 ≡ false)

stands_term : (t : Term) (rest : List ℕ) → Stands (term_text t ++ rest)
stands_term (term.Iri iri) rest = (refl, refl)
stands_term (term.Blank label) rest = (refl, refl)
stands_term (term.Literal literal) rest = (refl, refl)

ends_term : (t : Term) (rest : List ℕ) → Stands rest → EndsTerm t (32 ∷ rest)
ends_term t [] n = absurd n
ends_term t (b ∷ rest) n = space_ends t b rest n.0 n.1

term_here : (t : Term) (rest : List ℕ) → IsTermValue t → Stands rest → term_at (term_text t ++ 32 ∷ rest) ≡ Ok (t, 32 ∷ rest)
term_here t rest v n = term_is_read (term_text t ++ 32 ∷ rest) t (32 ∷ rest) (printed t (32 ∷ rest) v (ends_term t rest n))

-- ---- the parts of a statement

node_here : (t : Term) (rest : List ℕ) → IsTermValue t → is_literal t ≡ false → Stands rest → node_at (term_text t ++ 32 ∷ rest) ≡ Ok (t, 32 ∷ rest)
unfolding node_at
node_here t rest v e n = rw (term_here t rest v n, e) refl

predicate_here : (t : Term) (rest : List ℕ) → IsTermValue t → is_iri t ≡ true → Stands rest → predicate_at (term_text t ++ 32 ∷ rest) ≡ Ok (t, 32 ∷ rest)
unfolding predicate_at
predicate_here t rest v e n = rw (term_here t rest v n, e) refl

pub dot_here : (rest : List ℕ) → final_dot_at (46 ∷ rest) ≡ Ok (None, rest)
unfolding final_dot_at
dot_here rest = rw (char_at-ascii 46 rest (omega arith)) refl

pub graph_none : (rest : List ℕ) → graph_at (46 ∷ rest) ≡ Ok (None, rest)
unfolding graph_at
graph_none rest = rw (char_at-ascii 46 rest (omega arith)) (dot_here rest)

graph_node : (g : Term) (b : ℕ) (more after : List ℕ) → b < 128 → (nat_eq b 60 || nat_eq b 95 || nat_eq b 34) ≡ true → node_at (b ∷ more) ≡ Ok (g, 32 ∷ 46 ∷ after) → graph_at (b ∷ more) ≡ Ok (Some g, after)
unfolding graph_at
graph_node g b more after low begins e =
    let dot : skip_blanks (32 ∷ 46 ∷ after) ≡ 46 ∷ after = skip_space (46 ∷ after) ∙ skip_dot after in
    rw (char_at-ascii b more low, begins, e, dot, dot_here after) refl

graph_some : (g : Term) (after : List ℕ) → IsTermValue g → is_literal g ≡ false → graph_at (term_text g ++ 32 ∷ 46 ∷ after) ≡ Ok (Some g, after)
graph_some (term.Iri iri) after v e = graph_node (term.Iri iri) 60 _ after (omega arith) refl (node_here (term.Iri iri) (46 ∷ after) v e (refl, refl))
graph_some (term.Blank label) after v e = graph_node (term.Blank label) 95 _ after (omega arith) refl (node_here (term.Blank label) (46 ∷ after) v e (refl, refl))
graph_some (term.Literal literal) after v e = absurd (false≢true (sym e))

-- what follows the object's space
abbrev graph_tail : Option Term → List ℕ → List ℕ
graph_tail None after = 46 ∷ after
graph_tail (Some g) after = term_text g ++ 32 ∷ 46 ∷ after

tail_is : (g : Option Term) (after : List ℕ) → graph_text g ++ 32 ∷ 46 ∷ after ≡ 32 ∷ graph_tail g after
tail_is None after = refl
tail_is (Some g) after = refl

skip_tail : (g : Option Term) (after : List ℕ) → skip_blanks (graph_tail g after) ≡ graph_tail g after
skip_tail None after = skip_dot after
skip_tail (Some g) after = skip_term g (32 ∷ 46 ∷ after)

stands_tail : (g : Option Term) (after : List ℕ) → Stands (graph_tail g after)
stands_tail None after = (refl, refl)
stands_tail (Some g) after = stands_term g (32 ∷ 46 ∷ after)

graph_here : (g : Option Term) (after : List ℕ) → IsGraphValue g → may_be_graph g ≡ true → graph_at (graph_tail g after) ≡ Ok (g, after)
graph_here None after v e = graph_none after
graph_here (Some g) after v e = graph_some g after v (other (is_literal g) e)
  where
    other : (b : Bool) → not b ≡ true → b ≡ false
    other true e = absurd (false≢true e)
    other false e = refl

-- ---- the statement

abbrev statement_text : Statement → List ℕ → List ℕ
statement_text q after = term_text q.subject ++ 32 ∷ (term_text q.predicate ++ 32 ∷ (term_text q.object ++ 32 ∷ graph_tail q.graph after))

statement_here : (q : Statement) (after : List ℕ) → IsQuadValue q → statement_at (statement_text q after) ≡ Ok (q, after)
unfolding statement_at
statement_here q after v =
    let outer = and_parts (not (is_literal q.subject) && is_iri q.predicate) (may_be_graph q.graph) v.0 in
    let inner = and_parts (not (is_literal q.subject)) (is_iri q.predicate) outer.0 in
    let third : List ℕ = term_text q.object ++ 32 ∷ graph_tail q.graph after in
    let second : List ℕ = term_text q.predicate ++ 32 ∷ third in
    let s = node_here q.subject second v.1.0 (other (is_literal q.subject) inner.0) (stands_term q.predicate (32 ∷ third)) in
    let p = predicate_here q.predicate third v.1.1 inner.1 (stands_term q.object (32 ∷ graph_tail q.graph after)) in
    let o = term_here q.object (graph_tail q.graph after) v.1.2 (stands_tail q.graph after) in
    let g = graph_here q.graph after v.1.3 outer.1 in
    let to_p = space_to_term q.predicate (32 ∷ third) in
    let to_o = space_to_term q.object (32 ∷ graph_tail q.graph after) in
    let to_g = skip_space (graph_tail q.graph after) ∙ skip_tail q.graph after in
    rw (s, to_p, p, to_o, o, to_g, g) refl
  where
    other : (b : Bool) → not b ≡ true → b ≡ false
    other true e = absurd (false≢true e)
    other false e = refl

-- ---- the line

line_is : (q : Statement) (more : List ℕ) → line q ++ more ≡ statement_text q (10 ∷ more)
unfolding line
line_is q more = simp append_assoc (ap (λ (t : List ℕ). term_text q.subject ++ 32 ∷ (term_text q.predicate ++ 32 ∷ (term_text q.object ++ t))) (tail_is q.graph (10 ∷ more)))

-- up to its dot
pub statement_read : (q : Statement) (more : List ℕ) → IsQuadValue q → statement_at (line q ++ more) ≡ Ok (q, 10 ∷ more)
statement_read q more v = ap statement_at (line_is q more) ∙ statement_here q (10 ∷ more) v

end_here : (more : List ℕ) → line_end_at (10 ∷ more) ≡ Ok (tt, 10 ∷ more)
unfolding line_end_at skip_blanks
end_here more = refl

to_statement : (t : Term) (rest : List ℕ) → document_part_at (term_text t ++ rest) ≡ statement_part (term_text t ++ rest)
unfolding document_part_at
to_statement (term.Iri iri) rest = ap part_by (skip_term (term.Iri iri) rest)
to_statement (term.Blank label) rest = ap part_by (skip_term (term.Blank label) rest)
to_statement (term.Literal literal) rest = ap part_by (skip_term (term.Literal literal) rest)

part_here : (q : Statement) (more : List ℕ) → IsQuadValue q → document_part_at (line q ++ more) ≡ Ok (Some q, 10 ∷ more)
unfolding statement_part
part_here q more v =
    ap document_part_at (line_is q more)
    ∙ to_statement q.subject (32 ∷ (term_text q.predicate ++ 32 ∷ (term_text q.object ++ 32 ∷ graph_tail q.graph (10 ∷ more))))
    ∙ rw (statement_here q (10 ∷ more) v, end_here more) refl

feed_part : (more : List ℕ) → document_part_at (10 ∷ more) ≡ Ok (None, more)
unfolding document_part_at skip_blanks
feed_part more = refl

-- a part that takes a front off
pub document_behind : (text front after : List ℕ) (x : Option Statement) → text ≡ front ++ after → 0 < length front → document_part_at text ≡ Ok (x, after) → document_at 0 text ≡ with_part x (document_at 0 after)
document_behind text front after x parts pos e =
    let there : drop (length front) text ≡ after = ap (drop (length front)) parts ∙ drop_at front after (length front) refl in
    let within : length front ≤ length text = let l = ap length parts ∙ length-append front after in omega arith in
    document_part text x (length front) pos within (e ∙ ap (λ (t : List ℕ). Ok (x, t)) (sym there)) ∙ ap (λ (t : List ℕ). with_part x (document_at 0 t)) there

stem : Statement → List ℕ
stem q = term_text q.subject ++ 32 ∷ (term_text q.predicate ++ 32 ∷ (term_text q.object ++ 32 ∷ graph_tail q.graph []))

tail_more : (g : Option Term) (more : List ℕ) → graph_tail g more ≡ graph_tail g [] ++ more
tail_more None more = refl
tail_more (Some g) more = sym (append_assoc (term_text g) (32 ∷ 46 ∷ []) more)

stem_more : (q : Statement) (more : List ℕ) → statement_text q more ≡ stem q ++ more
unfolding stem
stem_more q more = simp append_assoc (ap (λ (t : List ℕ). term_text q.subject ++ 32 ∷ (term_text q.predicate ++ 32 ∷ (term_text q.object ++ 32 ∷ t))) (tail_more q.graph more))

stem_some : (q : Statement) → 0 < length (stem q)
unfolding stem
stem_some q = omega (arith, length-append (term_text q.subject) (32 ∷ (term_text q.predicate ++ 32 ∷ (term_text q.object ++ 32 ∷ graph_tail q.graph []))))

pub line_read : (q : Statement) (more : List ℕ) → IsQuadValue q → document_at 0 (line q ++ more) ≡ with_part (Some q) (document_at 0 more)
line_read q more v =
    document_behind (line q ++ more) (stem q) (10 ∷ more) (Some q) (line_is q more ∙ stem_more q (10 ∷ more)) (stem_some q) (part_here q more v)
    ∙ ap (with_part (Some q)) (document_behind (10 ∷ more) (10 ∷ []) more None refl (omega arith) (feed_part more))

pub lines_read : LinesRead
unfolding document_at
lines_read [] all = refl
lines_read (q ∷ quads) all =
    line_read q (flat_map line quads) (All-head IsQuadValue q quads all) ∙ ap (with_part (Some q)) (lines_read quads (All-tail IsQuadValue q quads all))

pub lines_apart : LinesApart
lines_apart p q more v w e =
    let one = ok_is (Some p, 10 ∷ more) (Some q, 10 ∷ []) (sym (part_here p more v) ∙ ap document_part_at (e ∙ sym (append-nil (line q))) ∙ part_here q [] w) in
    let same : Some p ≡ Some q = ap (λ (x : Option Statement × List ℕ). x.0) one in
    cc
