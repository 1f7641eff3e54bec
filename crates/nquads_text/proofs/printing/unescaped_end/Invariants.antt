use Rattle.std.proofs.Common.{ℕ, ◌≡◌, ◌<◌, ◌≤◌, [], ◌∷◌, get_or}
use Rattle.rdf_terms.specs.Line.{escaped}
use Rattle.nquads_text.proofs.printing.unescaped_end.Given as goal

abbrev pub invariant-loop-i : goal.invariant-loop-i
invariant-loop-i l = (k : ℕ) → l.at ≤ k → k < l.i → escaped (get_or l.text k 0) ≡ get_or l.text k 0 ∷ []
