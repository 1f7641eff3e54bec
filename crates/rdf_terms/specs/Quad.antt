-- A statement, and which terms may stand where.
use Rattle.std.specs.Prelude.{ℕ, Bool, true, false, ◌&&◌, not, Option, Some, None, if◌then◌else◌}
use Rattle.rdf_terms.specs.declared.term.Term.{Term}
use Rattle.rdf_terms.specs.declared.term.Term.TheVariants as term

-- a statement without a graph is in the default graph
pub record Statement : Type 0 where
  pub subject : Term
  pub predicate : Term
  pub object : Term
  pub graph : Option Term

-- the term is an IRI
abbrev pub is_iri : Term → Bool
is_iri (term.Iri iri) = true
is_iri (term.Blank label) = false
is_iri (term.Literal literal) = false

-- the term is a literal
abbrev pub is_literal : Term → Bool
is_literal (term.Iri iri) = false
is_literal (term.Blank label) = false
is_literal (term.Literal literal) = true

-- a graph is the default one, an IRI or a blank node
abbrev pub may_be_graph : Option Term → Bool
may_be_graph None = true
may_be_graph (Some g) = not (is_literal g)

-- each term stands where it may
abbrev pub is_quad : Statement → Bool
is_quad q = not (is_literal q.subject) && is_iri q.predicate && may_be_graph q.graph

-- the first place, from 0, whose term isn't allowed there; any term may be the object
abbrev pub bad_place : Term → Term → Option Term → Option ℕ
bad_place subject predicate graph =
    if is_literal subject then Some 0
    else (if not (is_iri predicate) then Some 1
    else (if not (may_be_graph graph) then Some 3 else None))

-- the statement of these terms
abbrev pub statement : Term → Term → Term → Option Term → Statement
statement s p o g = record { subject = s; predicate = p; object = o; graph = g }
