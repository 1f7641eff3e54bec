-- A line, part by part.
use Rattle.std.proofs.Common.{◌≡◌, ℕ, List, [], ◌∷◌, ◌++◌, refl, append_assoc}
use Rattle.rdf_terms.specs.Quad.{Statement}
use Rattle.rdf_terms.specs.Line.{term_text}
use Rattle.rdf_terms.specs.Line.{line, graph_text}

pub line_parts : (out : List ℕ) (q : Statement) → (((((out ++ term_text q.subject) ++ 32 ∷ []) ++ term_text q.predicate) ++ 32 ∷ []) ++ term_text q.object) ++ graph_text q.graph ++ (32 ∷ 46 ∷ 10 ∷ []) ≡ out ++ line q
unfolding line
line_parts out q = simp append_assoc refl
