use Rattle.std.proofs.Common.{◌≡◌, ◌∙◌, Bool, true, false, cond, not, ◌&&◌, ℕ, Option, Some, None, IsTrue, refl, sym}
use Rattle.rdf_terms.specs.declared.term.Term.{Term}
use Rattle.rdf_terms.specs.Quad.{statement, is_iri, is_literal, may_be_graph, is_quad, bad_place}
use Rattle.rdf_terms.proofs.quad.Quad.new.Goals as goal

by_tests : (literal iri graph : Bool) → ◌≡◌ {A = Option ℕ} (cond literal (Some 0) (cond (not iri) (Some 1) (cond (not graph) (Some 3) None))) None → (not literal && iri && graph) ≡ true
by_tests true iri graph none = absurd (cc)
by_tests false false graph none = absurd (cc)
by_tests false true false none = absurd (cc)
by_tests false true true none = refl

all_stand : (subject predicate object : Term) (graph : Option Term) → bad_place subject predicate graph ≡ None → IsTrue (is_quad (statement subject predicate object graph))
all_stand subject predicate object graph none = by_tests (is_literal subject) (is_iri predicate) (may_be_graph graph) none

pub invariant_of-result : goal.invariant_of-result
invariant_of-result c = all_stand c.args.subject c.args.predicate c.args.object c.args.graph (sym c.first_bad_place.ensures ∙ c.in_default.is)
